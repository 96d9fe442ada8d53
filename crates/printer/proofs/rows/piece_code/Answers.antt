use mathlib.Core.Path.{refl}
use mathlib.Core.List.{flatten}
use Rattle.plan.specs.Words.{words}
use Rattle.printer.specs.Layout.{rows}
use Rattle.printer.specs.Rows.{wants, wanted, what_of, all_pieces}
use Rattle.printer.proofs.Tables.{coded}
use Rattle.printer.proofs.rows.piece_code.Goals as goal

pub returns-in-0 : goal.returns-in-0
unfolding rows words wants wanted what_of all_pieces flatten
returns-in-0 c = coded 0 c.in-0.is refl refl refl

pub returns-in-1 : goal.returns-in-1
unfolding rows words wants wanted what_of all_pieces flatten
returns-in-1 c = coded 1 c.in-1.is refl refl refl

pub returns-in-2 : goal.returns-in-2
unfolding rows words wants wanted what_of all_pieces flatten
returns-in-2 c = coded 2 c.in-2.is refl refl refl

pub returns-in-3 : goal.returns-in-3
unfolding rows words wants wanted what_of all_pieces flatten
returns-in-3 c = coded 3 c.in-3.is refl refl refl

pub returns-in-4 : goal.returns-in-4
unfolding rows words wants wanted what_of all_pieces flatten
returns-in-4 c = coded 4 c.in-4.is refl refl refl

pub returns-in-5 : goal.returns-in-5
unfolding rows words wants wanted what_of all_pieces flatten
returns-in-5 c = coded 5 c.in-5.is refl refl refl

pub returns-in-6 : goal.returns-in-6
unfolding rows words wants wanted what_of all_pieces flatten
returns-in-6 c = coded 6 c.in-6.is refl refl refl

pub returns-in-7 : goal.returns-in-7
unfolding rows words wants wanted what_of all_pieces flatten
returns-in-7 c = coded 7 c.in-7.is refl refl refl

pub returns-in-8 : goal.returns-in-8
unfolding rows words wants wanted what_of all_pieces flatten
returns-in-8 c = coded 8 c.in-8.is refl refl refl

pub returns-in-9 : goal.returns-in-9
unfolding rows words wants wanted what_of all_pieces flatten
returns-in-9 c = coded 9 c.in-9.is refl refl refl

pub returns-in-10 : goal.returns-in-10
unfolding rows words wants wanted what_of all_pieces flatten
returns-in-10 c = coded 10 c.in-10.is refl refl refl

pub returns-in-11 : goal.returns-in-11
unfolding rows words wants wanted what_of all_pieces flatten
returns-in-11 c = coded 11 c.in-11.is refl refl refl

pub returns-in-12 : goal.returns-in-12
unfolding rows words wants wanted what_of all_pieces flatten
returns-in-12 c = coded 12 c.in-12.is refl refl refl

pub returns-in-13 : goal.returns-in-13
unfolding rows words wants wanted what_of all_pieces flatten
returns-in-13 c = coded 13 c.in-13.is refl refl refl

pub returns-in-14 : goal.returns-in-14
unfolding rows words wants wanted what_of all_pieces flatten
returns-in-14 c = coded 14 c.in-14.is refl refl refl

pub returns-in-15 : goal.returns-in-15
unfolding rows words wants wanted what_of all_pieces flatten
returns-in-15 c = coded 15 c.in-15.is refl refl refl

pub returns-in-16 : goal.returns-in-16
unfolding rows words wants wanted what_of all_pieces flatten
returns-in-16 c = coded 16 c.in-16.is refl refl refl

pub returns-in-17 : goal.returns-in-17
unfolding rows words wants wanted what_of all_pieces flatten
returns-in-17 c = coded 17 c.in-17.is refl refl refl

pub returns-in-18 : goal.returns-in-18
unfolding rows words wants wanted what_of all_pieces flatten
returns-in-18 c = coded 18 c.in-18.is refl refl refl

pub returns-in-19 : goal.returns-in-19
unfolding rows words wants wanted what_of all_pieces flatten
returns-in-19 c = coded 19 c.in-19.is refl refl refl

pub returns-in-20 : goal.returns-in-20
unfolding rows words wants wanted what_of all_pieces flatten
returns-in-20 c = coded 20 c.in-20.is refl refl refl

pub returns-in-21 : goal.returns-in-21
unfolding rows words wants wanted what_of all_pieces flatten
returns-in-21 c = coded 21 c.in-21.is refl refl refl

pub returns-in-22 : goal.returns-in-22
unfolding rows words wants wanted what_of all_pieces flatten
returns-in-22 c = coded 22 c.in-22.is refl refl refl

pub returns-in-23 : goal.returns-in-23
unfolding rows words wants wanted what_of all_pieces flatten
returns-in-23 c = coded 23 c.in-23.is refl refl refl

pub returns-in-24 : goal.returns-in-24
unfolding rows words wants wanted what_of all_pieces flatten
returns-in-24 c = coded 24 c.in-24.is refl refl refl

pub returns-in-25 : goal.returns-in-25
unfolding rows words wants wanted what_of all_pieces flatten
returns-in-25 c = coded 25 c.in-25.is refl refl refl

pub returns-in-26 : goal.returns-in-26
unfolding rows words wants wanted what_of all_pieces flatten
returns-in-26 c = coded 26 c.in-26.is refl refl refl

pub returns-in-27 : goal.returns-in-27
unfolding rows words wants wanted what_of all_pieces flatten
returns-in-27 c = coded 27 c.in-27.is refl refl refl

pub returns-in-28 : goal.returns-in-28
unfolding rows words wants wanted what_of all_pieces flatten
returns-in-28 c = coded 28 c.in-28.is refl refl refl

pub returns-in-29 : goal.returns-in-29
unfolding rows words wants wanted what_of all_pieces flatten
returns-in-29 c = coded 29 c.in-29.is refl refl refl

pub returns-in-30 : goal.returns-in-30
unfolding rows words wants wanted what_of all_pieces flatten
returns-in-30 c = coded 30 c.in-30.is refl refl refl

pub returns-in-31 : goal.returns-in-31
unfolding rows words wants wanted what_of all_pieces flatten
returns-in-31 c = coded 31 c.in-31.is refl refl refl

pub returns-in-32 : goal.returns-in-32
unfolding rows words wants wanted what_of all_pieces flatten
returns-in-32 c = coded 32 c.in-32.is refl refl refl

pub returns-in-33 : goal.returns-in-33
unfolding rows words wants wanted what_of all_pieces flatten
returns-in-33 c = coded 33 c.in-33.is refl refl refl

pub returns-in-34 : goal.returns-in-34
unfolding rows words wants wanted what_of all_pieces flatten
returns-in-34 c = coded 34 c.in-34.is refl refl refl

pub returns-in-35 : goal.returns-in-35
unfolding rows words wants wanted what_of all_pieces flatten
returns-in-35 c = coded 35 c.in-35.is refl refl refl

pub returns-in-36 : goal.returns-in-36
unfolding rows words wants wanted what_of all_pieces flatten
returns-in-36 c = coded 36 c.in-36.is refl refl refl

pub returns-in-37 : goal.returns-in-37
unfolding rows words wants wanted what_of all_pieces flatten
returns-in-37 c = coded 37 c.in-37.is refl refl refl

pub returns-in-38 : goal.returns-in-38
unfolding rows words wants wanted what_of all_pieces flatten
returns-in-38 c = coded 38 c.in-38.is refl refl refl

pub returns-in-39 : goal.returns-in-39
unfolding rows words wants wanted what_of all_pieces flatten
returns-in-39 c = coded 39 c.in-39.is refl refl refl

pub returns-in-40 : goal.returns-in-40
unfolding rows words wants wanted what_of all_pieces flatten
returns-in-40 c = coded 40 c.in-40.is refl refl refl

pub returns-in-41 : goal.returns-in-41
unfolding rows words wants wanted what_of all_pieces flatten
returns-in-41 c = coded 41 c.in-41.is refl refl refl

pub returns-in-42 : goal.returns-in-42
unfolding rows words wants wanted what_of all_pieces flatten
returns-in-42 c = coded 42 c.in-42.is refl refl refl

pub returns-in-43 : goal.returns-in-43
unfolding rows words wants wanted what_of all_pieces flatten
returns-in-43 c = coded 43 c.in-43.is refl refl refl

pub returns-in-44 : goal.returns-in-44
unfolding rows words wants wanted what_of all_pieces flatten
returns-in-44 c = coded 44 c.in-44.is refl refl refl

pub returns-in-45 : goal.returns-in-45
unfolding rows words wants wanted what_of all_pieces flatten
returns-in-45 c = coded 45 c.in-45.is refl refl refl

pub returns-in-46 : goal.returns-in-46
unfolding rows words wants wanted what_of all_pieces flatten
returns-in-46 c = coded 46 c.in-46.is refl refl refl

pub returns-in-47 : goal.returns-in-47
unfolding rows words wants wanted what_of all_pieces flatten
returns-in-47 c = coded 47 c.in-47.is refl refl refl

pub returns-in-48 : goal.returns-in-48
unfolding rows words wants wanted what_of all_pieces flatten
returns-in-48 c = coded 48 c.in-48.is refl refl refl

pub returns-in-49 : goal.returns-in-49
unfolding rows words wants wanted what_of all_pieces flatten
returns-in-49 c = coded 49 c.in-49.is refl refl refl

pub returns-in-50 : goal.returns-in-50
unfolding rows words wants wanted what_of all_pieces flatten
returns-in-50 c = coded 50 c.in-50.is refl refl refl

pub returns-in-51 : goal.returns-in-51
unfolding rows words wants wanted what_of all_pieces flatten
returns-in-51 c = coded 51 c.in-51.is refl refl refl

pub returns-in-52 : goal.returns-in-52
unfolding rows words wants wanted what_of all_pieces flatten
returns-in-52 c = coded 52 c.in-52.is refl refl refl

pub returns-in-53 : goal.returns-in-53
unfolding rows words wants wanted what_of all_pieces flatten
returns-in-53 c = coded 53 c.in-53.is refl refl refl

pub returns-in-54 : goal.returns-in-54
unfolding rows words wants wanted what_of all_pieces flatten
returns-in-54 c = coded 54 c.in-54.is refl refl refl

pub returns-in-55 : goal.returns-in-55
unfolding rows words wants wanted what_of all_pieces flatten
returns-in-55 c = coded 55 c.in-55.is refl refl refl

pub returns-in-56 : goal.returns-in-56
unfolding rows words wants wanted what_of all_pieces flatten
returns-in-56 c = coded 56 c.in-56.is refl refl refl

pub returns-in-57 : goal.returns-in-57
unfolding rows words wants wanted what_of all_pieces flatten
returns-in-57 c = coded 57 c.in-57.is refl refl refl

pub returns-in-58 : goal.returns-in-58
unfolding rows words wants wanted what_of all_pieces flatten
returns-in-58 c = coded 58 c.in-58.is refl refl refl

pub returns-in-59 : goal.returns-in-59
unfolding rows words wants wanted what_of all_pieces flatten
returns-in-59 c = coded 59 c.in-59.is refl refl refl

pub returns-in-60 : goal.returns-in-60
unfolding rows words wants wanted what_of all_pieces flatten
returns-in-60 c = coded 60 c.in-60.is refl refl refl

pub returns-in-61 : goal.returns-in-61
unfolding rows words wants wanted what_of all_pieces flatten
returns-in-61 c = coded 61 c.in-61.is refl refl refl

pub returns-in-62 : goal.returns-in-62
unfolding rows words wants wanted what_of all_pieces flatten
returns-in-62 c = coded 62 c.in-62.is refl refl refl

pub returns-in-63 : goal.returns-in-63
unfolding rows words wants wanted what_of all_pieces flatten
returns-in-63 c = coded 63 c.in-63.is refl refl refl

pub returns-in-64 : goal.returns-in-64
unfolding rows words wants wanted what_of all_pieces flatten
returns-in-64 c = coded 64 c.in-64.is refl refl refl

pub returns-in-65 : goal.returns-in-65
unfolding rows words wants wanted what_of all_pieces flatten
returns-in-65 c = coded 65 c.in-65.is refl refl refl

pub returns-in-66 : goal.returns-in-66
unfolding rows words wants wanted what_of all_pieces flatten
returns-in-66 c = coded 66 c.in-66.is refl refl refl

pub returns-in-67 : goal.returns-in-67
unfolding rows words wants wanted what_of all_pieces flatten
returns-in-67 c = coded 67 c.in-67.is refl refl refl

pub returns-in-68 : goal.returns-in-68
unfolding rows words wants wanted what_of all_pieces flatten
returns-in-68 c = coded 68 c.in-68.is refl refl refl

pub returns-in-69 : goal.returns-in-69
unfolding rows words wants wanted what_of all_pieces flatten
returns-in-69 c = coded 69 c.in-69.is refl refl refl

pub returns-in-70 : goal.returns-in-70
unfolding rows words wants wanted what_of all_pieces flatten
returns-in-70 c = coded 70 c.in-70.is refl refl refl

pub returns-in-71 : goal.returns-in-71
unfolding rows words wants wanted what_of all_pieces flatten
returns-in-71 c = coded 71 c.in-71.is refl refl refl

pub returns-in-72 : goal.returns-in-72
unfolding rows words wants wanted what_of all_pieces flatten
returns-in-72 c = coded 72 c.in-72.is refl refl refl

pub returns-in-73 : goal.returns-in-73
unfolding rows words wants wanted what_of all_pieces flatten
returns-in-73 c = coded 73 c.in-73.is refl refl refl

pub returns-in-74 : goal.returns-in-74
unfolding rows words wants wanted what_of all_pieces flatten
returns-in-74 c = coded 74 c.in-74.is refl refl refl

pub returns-in-75 : goal.returns-in-75
unfolding rows words wants wanted what_of all_pieces flatten
returns-in-75 c = coded 75 c.in-75.is refl refl refl

pub returns-in-76 : goal.returns-in-76
unfolding rows words wants wanted what_of all_pieces flatten
returns-in-76 c = coded 76 c.in-76.is refl refl refl

pub returns-in-77 : goal.returns-in-77
unfolding rows words wants wanted what_of all_pieces flatten
returns-in-77 c = coded 77 c.in-77.is refl refl refl

pub returns-in-78 : goal.returns-in-78
unfolding rows words wants wanted what_of all_pieces flatten
returns-in-78 c = coded 78 c.in-78.is refl refl refl

pub returns-in-79 : goal.returns-in-79
unfolding rows words wants wanted what_of all_pieces flatten
returns-in-79 c = coded 79 c.in-79.is refl refl refl

pub returns-in-80 : goal.returns-in-80
unfolding rows words wants wanted what_of all_pieces flatten
returns-in-80 c = coded 80 c.in-80.is refl refl refl

pub returns-in-81 : goal.returns-in-81
unfolding rows words wants wanted what_of all_pieces flatten
returns-in-81 c = coded 81 c.in-81.is refl refl refl

pub returns-in-82 : goal.returns-in-82
unfolding rows words wants wanted what_of all_pieces flatten
returns-in-82 c = coded 82 c.in-82.is refl refl refl

pub returns-in-83 : goal.returns-in-83
unfolding rows words wants wanted what_of all_pieces flatten
returns-in-83 c = coded 83 c.in-83.is refl refl refl

pub returns-in-84 : goal.returns-in-84
unfolding rows words wants wanted what_of all_pieces flatten
returns-in-84 c = coded 84 c.in-84.is refl refl refl

pub returns-in-85 : goal.returns-in-85
unfolding rows words wants wanted what_of all_pieces flatten
returns-in-85 c = coded 85 c.in-85.is refl refl refl

pub returns-in-86 : goal.returns-in-86
unfolding rows words wants wanted what_of all_pieces flatten
returns-in-86 c = coded 86 c.in-86.is refl refl refl

pub returns-in-87 : goal.returns-in-87
unfolding rows words wants wanted what_of all_pieces flatten
returns-in-87 c = coded 87 c.in-87.is refl refl refl

pub returns-in-88 : goal.returns-in-88
unfolding rows words wants wanted what_of all_pieces flatten
returns-in-88 c = coded 88 c.in-88.is refl refl refl

pub returns-in-89 : goal.returns-in-89
unfolding rows words wants wanted what_of all_pieces flatten
returns-in-89 c = coded 89 c.in-89.is refl refl refl

pub returns-in-90 : goal.returns-in-90
unfolding rows words wants wanted what_of all_pieces flatten
returns-in-90 c = coded 90 c.in-90.is refl refl refl

pub returns-in-91 : goal.returns-in-91
unfolding rows words wants wanted what_of all_pieces flatten
returns-in-91 c = coded 91 c.in-91.is refl refl refl

pub returns-in-92 : goal.returns-in-92
unfolding rows words wants wanted what_of all_pieces flatten
returns-in-92 c = coded 92 c.in-92.is refl refl refl

pub returns-in-93 : goal.returns-in-93
unfolding rows words wants wanted what_of all_pieces flatten
returns-in-93 c = coded 93 c.in-93.is refl refl refl

pub returns-in-94 : goal.returns-in-94
unfolding rows words wants wanted what_of all_pieces flatten
returns-in-94 c = coded 94 c.in-94.is refl refl refl

pub returns-in-95 : goal.returns-in-95
unfolding rows words wants wanted what_of all_pieces flatten
returns-in-95 c = coded 95 c.in-95.is refl refl refl

pub returns-in-96 : goal.returns-in-96
unfolding rows words wants wanted what_of all_pieces flatten
returns-in-96 c = coded 96 c.in-96.is refl refl refl

pub returns-in-97 : goal.returns-in-97
unfolding rows words wants wanted what_of all_pieces flatten
returns-in-97 c = coded 97 c.in-97.is refl refl refl

pub returns-in-98 : goal.returns-in-98
unfolding rows words wants wanted what_of all_pieces flatten
returns-in-98 c = coded 98 c.in-98.is refl refl refl

pub returns-in-99 : goal.returns-in-99
unfolding rows words wants wanted what_of all_pieces flatten
returns-in-99 c = coded 99 c.in-99.is refl refl refl

pub returns-in-100 : goal.returns-in-100
unfolding rows words wants wanted what_of all_pieces flatten
returns-in-100 c = coded 100 c.in-100.is refl refl refl

pub returns-in-101 : goal.returns-in-101
unfolding rows words wants wanted what_of all_pieces flatten
returns-in-101 c = coded 101 c.in-101.is refl refl refl

pub returns-in-102 : goal.returns-in-102
unfolding rows words wants wanted what_of all_pieces flatten
returns-in-102 c = coded 102 c.in-102.is refl refl refl

pub returns-in-103 : goal.returns-in-103
unfolding rows words wants wanted what_of all_pieces flatten
returns-in-103 c = coded 103 c.in-103.is refl refl refl

pub returns-in-104 : goal.returns-in-104
unfolding rows words wants wanted what_of all_pieces flatten
returns-in-104 c = coded 104 c.in-104.is refl refl refl

pub returns-in-105 : goal.returns-in-105
unfolding rows words wants wanted what_of all_pieces flatten
returns-in-105 c = coded 105 c.in-105.is refl refl refl

pub returns-in-106 : goal.returns-in-106
unfolding rows words wants wanted what_of all_pieces flatten
returns-in-106 c = coded 106 c.in-106.is refl refl refl

pub returns-in-107 : goal.returns-in-107
unfolding rows words wants wanted what_of all_pieces flatten
returns-in-107 c = coded 107 c.in-107.is refl refl refl

pub returns-in-108 : goal.returns-in-108
unfolding rows words wants wanted what_of all_pieces flatten
returns-in-108 c = coded 108 c.in-108.is refl refl refl

pub returns-in-109 : goal.returns-in-109
unfolding rows words wants wanted what_of all_pieces flatten
returns-in-109 c = coded 109 c.in-109.is refl refl refl

pub returns-in-110 : goal.returns-in-110
unfolding rows words wants wanted what_of all_pieces flatten
returns-in-110 c = coded 110 c.in-110.is refl refl refl

pub returns-in-111 : goal.returns-in-111
unfolding rows words wants wanted what_of all_pieces flatten
returns-in-111 c = coded 111 c.in-111.is refl refl refl

pub returns-in-112 : goal.returns-in-112
unfolding rows words wants wanted what_of all_pieces flatten
returns-in-112 c = coded 112 c.in-112.is refl refl refl

pub returns-in-113 : goal.returns-in-113
unfolding rows words wants wanted what_of all_pieces flatten
returns-in-113 c = coded 113 c.in-113.is refl refl refl

pub returns-in-114 : goal.returns-in-114
unfolding rows words wants wanted what_of all_pieces flatten
returns-in-114 c = coded 114 c.in-114.is refl refl refl

pub returns-in-115 : goal.returns-in-115
unfolding rows words wants wanted what_of all_pieces flatten
returns-in-115 c = coded 115 c.in-115.is refl refl refl

pub returns-in-116 : goal.returns-in-116
unfolding rows words wants wanted what_of all_pieces flatten
returns-in-116 c = coded 116 c.in-116.is refl refl refl

pub returns-in-117 : goal.returns-in-117
unfolding rows words wants wanted what_of all_pieces flatten
returns-in-117 c = coded 117 c.in-117.is refl refl refl

pub returns-in-118 : goal.returns-in-118
unfolding rows words wants wanted what_of all_pieces flatten
returns-in-118 c = coded 118 c.in-118.is refl refl refl

pub returns-in-119 : goal.returns-in-119
unfolding rows words wants wanted what_of all_pieces flatten
returns-in-119 c = coded 119 c.in-119.is refl refl refl

pub returns-in-120 : goal.returns-in-120
unfolding rows words wants wanted what_of all_pieces flatten
returns-in-120 c = coded 120 c.in-120.is refl refl refl

pub returns-in-121 : goal.returns-in-121
unfolding rows words wants wanted what_of all_pieces flatten
returns-in-121 c = coded 121 c.in-121.is refl refl refl

pub returns-in-122 : goal.returns-in-122
unfolding rows words wants wanted what_of all_pieces flatten
returns-in-122 c = coded 122 c.in-122.is refl refl refl

pub returns-in-123 : goal.returns-in-123
unfolding rows words wants wanted what_of all_pieces flatten
returns-in-123 c = coded 123 c.in-123.is refl refl refl

pub returns-in-124 : goal.returns-in-124
unfolding rows words wants wanted what_of all_pieces flatten
returns-in-124 c = coded 124 c.in-124.is refl refl refl

pub returns-in-125 : goal.returns-in-125
unfolding rows words wants wanted what_of all_pieces flatten
returns-in-125 c = coded 125 c.in-125.is refl refl refl

pub returns-in-126 : goal.returns-in-126
unfolding rows words wants wanted what_of all_pieces flatten
returns-in-126 c = coded 126 c.in-126.is refl refl refl

pub returns-in-127 : goal.returns-in-127
unfolding rows words wants wanted what_of all_pieces flatten
returns-in-127 c = coded 127 c.in-127.is refl refl refl

pub returns-in-128 : goal.returns-in-128
unfolding rows words wants wanted what_of all_pieces flatten
returns-in-128 c = coded 128 c.in-128.is refl refl refl

pub returns-in-129 : goal.returns-in-129
unfolding rows words wants wanted what_of all_pieces flatten
returns-in-129 c = coded 129 c.in-129.is refl refl refl

pub returns-in-130 : goal.returns-in-130
unfolding rows words wants wanted what_of all_pieces flatten
returns-in-130 c = coded 130 c.in-130.is refl refl refl

pub returns-in-131 : goal.returns-in-131
unfolding rows words wants wanted what_of all_pieces flatten
returns-in-131 c = coded 131 c.in-131.is refl refl refl

pub returns-in-132 : goal.returns-in-132
unfolding rows words wants wanted what_of all_pieces flatten
returns-in-132 c = coded 132 c.in-132.is refl refl refl

pub returns-in-133 : goal.returns-in-133
unfolding rows words wants wanted what_of all_pieces flatten
returns-in-133 c = coded 133 c.in-133.is refl refl refl

pub returns-in-134 : goal.returns-in-134
unfolding rows words wants wanted what_of all_pieces flatten
returns-in-134 c = coded 134 c.in-134.is refl refl refl

pub returns-in-135 : goal.returns-in-135
unfolding rows words wants wanted what_of all_pieces flatten
returns-in-135 c = coded 135 c.in-135.is refl refl refl

pub returns-in-136 : goal.returns-in-136
unfolding rows words wants wanted what_of all_pieces flatten
returns-in-136 c = coded 136 c.in-136.is refl refl refl

pub returns-in-137 : goal.returns-in-137
unfolding rows words wants wanted what_of all_pieces flatten
returns-in-137 c = coded 137 c.in-137.is refl refl refl

pub returns-in-138 : goal.returns-in-138
unfolding rows words wants wanted what_of all_pieces flatten
returns-in-138 c = coded 138 c.in-138.is refl refl refl

pub returns-in-139 : goal.returns-in-139
unfolding rows words wants wanted what_of all_pieces flatten
returns-in-139 c = coded 139 c.in-139.is refl refl refl

pub returns-in-140 : goal.returns-in-140
unfolding rows words wants wanted what_of all_pieces flatten
returns-in-140 c = coded 140 c.in-140.is refl refl refl

pub returns-in-141 : goal.returns-in-141
unfolding rows words wants wanted what_of all_pieces flatten
returns-in-141 c = coded 141 c.in-141.is refl refl refl

pub returns-in-142 : goal.returns-in-142
unfolding rows words wants wanted what_of all_pieces flatten
returns-in-142 c = coded 142 c.in-142.is refl refl refl

pub returns-in-143 : goal.returns-in-143
unfolding rows words wants wanted what_of all_pieces flatten
returns-in-143 c = coded 143 c.in-143.is refl refl refl

pub returns-in-144 : goal.returns-in-144
unfolding rows words wants wanted what_of all_pieces flatten
returns-in-144 c = coded 144 c.in-144.is refl refl refl
