use mathlib.Core.Path.{refl}
use mathlib.Core.List.{flatten}
use Rattle.printer.specs.Layout.{rows, pick}
use Rattle.printer.specs.Rows.{all_pieces}
use Rattle.printer.proofs.Tables.{rowed}
use Rattle.printer.proofs.rows.row_code.Goals as goal

pub returns-in-0 : goal.returns-in-0
unfolding rows pick all_pieces flatten
returns-in-0 c = rowed 0 c.in-0.is refl refl

pub returns-in-1 : goal.returns-in-1
unfolding rows pick all_pieces flatten
returns-in-1 c = rowed 1 c.in-1.is refl refl

pub returns-in-2 : goal.returns-in-2
unfolding rows pick all_pieces flatten
returns-in-2 c = rowed 2 c.in-2.is refl refl

pub returns-in-3 : goal.returns-in-3
unfolding rows pick all_pieces flatten
returns-in-3 c = rowed 3 c.in-3.is refl refl

pub returns-in-4 : goal.returns-in-4
unfolding rows pick all_pieces flatten
returns-in-4 c = rowed 4 c.in-4.is refl refl

pub returns-in-5 : goal.returns-in-5
unfolding rows pick all_pieces flatten
returns-in-5 c = rowed 5 c.in-5.is refl refl

pub returns-in-6 : goal.returns-in-6
unfolding rows pick all_pieces flatten
returns-in-6 c = rowed 6 c.in-6.is refl refl

pub returns-in-7 : goal.returns-in-7
unfolding rows pick all_pieces flatten
returns-in-7 c = rowed 7 c.in-7.is refl refl

pub returns-in-8 : goal.returns-in-8
unfolding rows pick all_pieces flatten
returns-in-8 c = rowed 8 c.in-8.is refl refl

pub returns-in-9 : goal.returns-in-9
unfolding rows pick all_pieces flatten
returns-in-9 c = rowed 9 c.in-9.is refl refl

pub returns-in-10 : goal.returns-in-10
unfolding rows pick all_pieces flatten
returns-in-10 c = rowed 10 c.in-10.is refl refl

pub returns-in-11 : goal.returns-in-11
unfolding rows pick all_pieces flatten
returns-in-11 c = rowed 11 c.in-11.is refl refl

pub returns-in-12 : goal.returns-in-12
unfolding rows pick all_pieces flatten
returns-in-12 c = rowed 12 c.in-12.is refl refl

pub returns-in-13 : goal.returns-in-13
unfolding rows pick all_pieces flatten
returns-in-13 c = rowed 13 c.in-13.is refl refl

pub returns-in-14 : goal.returns-in-14
unfolding rows pick all_pieces flatten
returns-in-14 c = rowed 14 c.in-14.is refl refl

pub returns-in-15 : goal.returns-in-15
unfolding rows pick all_pieces flatten
returns-in-15 c = rowed 15 c.in-15.is refl refl

pub returns-in-16 : goal.returns-in-16
unfolding rows pick all_pieces flatten
returns-in-16 c = rowed 16 c.in-16.is refl refl

pub returns-in-17 : goal.returns-in-17
unfolding rows pick all_pieces flatten
returns-in-17 c = rowed 17 c.in-17.is refl refl

pub returns-in-18 : goal.returns-in-18
unfolding rows pick all_pieces flatten
returns-in-18 c = rowed 18 c.in-18.is refl refl

pub returns-in-19 : goal.returns-in-19
unfolding rows pick all_pieces flatten
returns-in-19 c = rowed 19 c.in-19.is refl refl

pub returns-in-20 : goal.returns-in-20
unfolding rows pick all_pieces flatten
returns-in-20 c = rowed 20 c.in-20.is refl refl

pub returns-in-21 : goal.returns-in-21
unfolding rows pick all_pieces flatten
returns-in-21 c = rowed 21 c.in-21.is refl refl

pub returns-in-22 : goal.returns-in-22
unfolding rows pick all_pieces flatten
returns-in-22 c = rowed 22 c.in-22.is refl refl

pub returns-in-23 : goal.returns-in-23
unfolding rows pick all_pieces flatten
returns-in-23 c = rowed 23 c.in-23.is refl refl

pub returns-in-24 : goal.returns-in-24
unfolding rows pick all_pieces flatten
returns-in-24 c = rowed 24 c.in-24.is refl refl

pub returns-in-25 : goal.returns-in-25
unfolding rows pick all_pieces flatten
returns-in-25 c = rowed 25 c.in-25.is refl refl

pub returns-in-26 : goal.returns-in-26
unfolding rows pick all_pieces flatten
returns-in-26 c = rowed 26 c.in-26.is refl refl

pub returns-in-27 : goal.returns-in-27
unfolding rows pick all_pieces flatten
returns-in-27 c = rowed 27 c.in-27.is refl refl

pub returns-in-28 : goal.returns-in-28
unfolding rows pick all_pieces flatten
returns-in-28 c = rowed 28 c.in-28.is refl refl

pub returns-in-29 : goal.returns-in-29
unfolding rows pick all_pieces flatten
returns-in-29 c = rowed 29 c.in-29.is refl refl

pub returns-in-30 : goal.returns-in-30
unfolding rows pick all_pieces flatten
returns-in-30 c = rowed 30 c.in-30.is refl refl

pub returns-in-31 : goal.returns-in-31
unfolding rows pick all_pieces flatten
returns-in-31 c = rowed 31 c.in-31.is refl refl

pub returns-in-32 : goal.returns-in-32
unfolding rows pick all_pieces flatten
returns-in-32 c = rowed 32 c.in-32.is refl refl

pub returns-in-33 : goal.returns-in-33
unfolding rows pick all_pieces flatten
returns-in-33 c = rowed 33 c.in-33.is refl refl

pub returns-in-34 : goal.returns-in-34
unfolding rows pick all_pieces flatten
returns-in-34 c = rowed 34 c.in-34.is refl refl

pub returns-in-35 : goal.returns-in-35
unfolding rows pick all_pieces flatten
returns-in-35 c = rowed 35 c.in-35.is refl refl

pub returns-in-36 : goal.returns-in-36
unfolding rows pick all_pieces flatten
returns-in-36 c = rowed 36 c.in-36.is refl refl

pub returns-in-37 : goal.returns-in-37
unfolding rows pick all_pieces flatten
returns-in-37 c = rowed 37 c.in-37.is refl refl

pub returns-in-38 : goal.returns-in-38
unfolding rows pick all_pieces flatten
returns-in-38 c = rowed 38 c.in-38.is refl refl

pub returns-in-39 : goal.returns-in-39
unfolding rows pick all_pieces flatten
returns-in-39 c = rowed 39 c.in-39.is refl refl

pub returns-in-40 : goal.returns-in-40
unfolding rows pick all_pieces flatten
returns-in-40 c = rowed 40 c.in-40.is refl refl

pub returns-in-41 : goal.returns-in-41
unfolding rows pick all_pieces flatten
returns-in-41 c = rowed 41 c.in-41.is refl refl

pub returns-in-42 : goal.returns-in-42
unfolding rows pick all_pieces flatten
returns-in-42 c = rowed 42 c.in-42.is refl refl

pub returns-in-43 : goal.returns-in-43
unfolding rows pick all_pieces flatten
returns-in-43 c = rowed 43 c.in-43.is refl refl

pub returns-in-44 : goal.returns-in-44
unfolding rows pick all_pieces flatten
returns-in-44 c = rowed 44 c.in-44.is refl refl

pub returns-in-45 : goal.returns-in-45
unfolding rows pick all_pieces flatten
returns-in-45 c = rowed 45 c.in-45.is refl refl

pub returns-in-46 : goal.returns-in-46
unfolding rows pick all_pieces flatten
returns-in-46 c = rowed 46 c.in-46.is refl refl

pub returns-in-47 : goal.returns-in-47
unfolding rows pick all_pieces flatten
returns-in-47 c = rowed 47 c.in-47.is refl refl

pub returns-in-48 : goal.returns-in-48
unfolding rows pick all_pieces flatten
returns-in-48 c = rowed 48 c.in-48.is refl refl

pub returns-in-49 : goal.returns-in-49
unfolding rows pick all_pieces flatten
returns-in-49 c = rowed 49 c.in-49.is refl refl

pub returns-in-50 : goal.returns-in-50
unfolding rows pick all_pieces flatten
returns-in-50 c = rowed 50 c.in-50.is refl refl

pub returns-in-51 : goal.returns-in-51
unfolding rows pick all_pieces flatten
returns-in-51 c = rowed 51 c.in-51.is refl refl

pub returns-in-52 : goal.returns-in-52
unfolding rows pick all_pieces flatten
returns-in-52 c = rowed 52 c.in-52.is refl refl

pub returns-in-53 : goal.returns-in-53
unfolding rows pick all_pieces flatten
returns-in-53 c = rowed 53 c.in-53.is refl refl

pub returns-in-54 : goal.returns-in-54
unfolding rows pick all_pieces flatten
returns-in-54 c = rowed 54 c.in-54.is refl refl

pub returns-in-55 : goal.returns-in-55
unfolding rows pick all_pieces flatten
returns-in-55 c = rowed 55 c.in-55.is refl refl

pub returns-in-56 : goal.returns-in-56
unfolding rows pick all_pieces flatten
returns-in-56 c = rowed 56 c.in-56.is refl refl

pub returns-in-57 : goal.returns-in-57
unfolding rows pick all_pieces flatten
returns-in-57 c = rowed 57 c.in-57.is refl refl

pub returns-in-58 : goal.returns-in-58
unfolding rows pick all_pieces flatten
returns-in-58 c = rowed 58 c.in-58.is refl refl

pub returns-in-59 : goal.returns-in-59
unfolding rows pick all_pieces flatten
returns-in-59 c = rowed 59 c.in-59.is refl refl

pub returns-in-60 : goal.returns-in-60
unfolding rows pick all_pieces flatten
returns-in-60 c = rowed 60 c.in-60.is refl refl

pub returns-in-61 : goal.returns-in-61
unfolding rows pick all_pieces flatten
returns-in-61 c = rowed 61 c.in-61.is refl refl

pub returns-in-62 : goal.returns-in-62
unfolding rows pick all_pieces flatten
returns-in-62 c = rowed 62 c.in-62.is refl refl

pub returns-in-63 : goal.returns-in-63
unfolding rows pick all_pieces flatten
returns-in-63 c = rowed 63 c.in-63.is refl refl
