-- Print items, and printing as a function of its context and the next list's number.
use Rattle.std.specs.Prelude.{Bool, true, false, cond, List, [], ◌∷◌, ◌++◌, ℕ, suc, eqb}
use Prim.Native.String.{String}
use Rattle.text.specs.Basic.{ascii}
use Rattle.numbers.specs.declared.mode.Mode.{Mode}
use Rattle.numbers.specs.Mode.{keeps}
use Rattle.items.specs.declared.Condition.{Condition}
use Rattle.items.specs.declared.Condition.TheVariants.{Always, Lines}
use Rattle.items.specs.declared.Signal.{Signal}
use Rattle.items.specs.declared.Signal.TheVariants.{NewLine, SpaceOrNewLine, Tab, StartIndent, FinishIndent, StartGroup, FinishGroup, StartBlock, FinishBlock, Else, EndIf}

-- What a condition tests: '0 always; or 1 and a start mark s: lines of marks s and s+1 differ'.
pub data Test : Type 0 where
  always : Test
  lines : ℕ → Test

-- the test of a condition as the code has it
abbrev pub condition_test : Condition → Test
condition_test Always = always
condition_test (Lines m) = lines m.0

-- 'Records': a text by its bytes, the eleven kinds without operands as one.
pub data Item : Type 0 where
  text : List ℕ → Item
  signal : Signal → Item
  mark : ℕ → Item
  run run_end again : ℕ → Item
  if_test : Test → Item

-- the kind of an item without operands: '2 newline' to '6 outdent', '8 group' to '11 block-end', '16 else', '17 end-if'
abbrev pub signal_kind : Signal → ℕ
signal_kind NewLine = 2
signal_kind SpaceOrNewLine = 3
signal_kind Tab = 4
signal_kind StartIndent = 5
signal_kind FinishIndent = 6
signal_kind StartGroup = 8
signal_kind FinishGroup = 9
signal_kind StartBlock = 10
signal_kind FinishBlock = 11
signal_kind Else = 16
signal_kind EndIf = 17

-- the items without operands by their names
abbrev pub newline : Item
newline = signal NewLine

abbrev pub space_or_newline : Item
space_or_newline = signal SpaceOrNewLine

abbrev pub tab : Item
tab = signal Tab

abbrev pub indent : Item
indent = signal StartIndent

abbrev pub outdent : Item
outdent = signal FinishIndent

abbrev pub group : Item
group = signal StartGroup

abbrev pub group_end : Item
group_end = signal FinishGroup

abbrev pub block : Item
block = signal StartBlock

abbrev pub block_end : Item
block_end = signal FinishBlock

abbrev pub else_item : Item
else_item = signal Else

abbrev pub end_if : Item
end_if = signal EndIf

-- the signal with a kind
abbrev pub signal_of : ℕ → Signal
signal_of k =
    cond (eqb k 2) NewLine
    (cond (eqb k 3) SpaceOrNewLine
    (cond (eqb k 4) Tab
    (cond (eqb k 5) StartIndent
    (cond (eqb k 6) FinishIndent
    (cond (eqb k 8) StartGroup
    (cond (eqb k 9) FinishGroup
    (cond (eqb k 10) StartBlock
    (cond (eqb k 11) FinishBlock
    (cond (eqb k 16) Else
    EndIf)))))))))

-- an item without a text by its kind and its number: 2 to 17 as the kinds of records, 15 where a condition always holds, 18 a condition on lines
unfoldable pub plain_item : ℕ → ℕ → Item
plain_item k n =
    cond (eqb k 7) (mark n)
    (cond (eqb k 12) (run n)
    (cond (eqb k 13) (run_end n)
    (cond (eqb k 14) (again n)
    (cond (eqb k 15) (if_test always)
    (cond (eqb k 18) (if_test (lines n))
    (signal (signal_of k)))))))

-- What a printing gives: the items until it stops and the element at which the Rust stops, or all items and the next list's number.
pub data Out : Type 0 where
  stop : List Item → ℕ → Out
  ok : List Item → ℕ → Out

-- What a printing reads and never changes: the mode in which it prints.
pub record Context : Type 0 where
  pub mode : Mode

-- the context in which the printing of a file begins
abbrev pub in_mode : Mode → Context
in_mode m = record { mode = m }

-- A printing in a context, from the next list's number.
abbrev pub Print : Type 0
Print = Context → ℕ → Out

-- items in front of what a printing gives
abbrev pub after : List Item → Out → Out
after xs (stop ys e) = stop (xs ++ ys) e
after xs (ok ys k) = ok (xs ++ ys) k

-- a printing behind what another has given
abbrev pub next : Out → (ℕ → Out) → Out
next (stop xs e) q = stop xs e
next (ok xs k) q = after xs (q k)

infixr 40 ◌⨟◌
-- one printing and then another
unfoldable pub ◌⨟◌ : Print → Print → Print
◌⨟◌ p q c k = next (p c k) (q c)

-- prints nothing
unfoldable pub none : Print
none c k = ok [] k

-- prints one item
unfoldable pub say : Item → Print
say x c k = ok (x ∷ []) k

-- prints items
unfoldable pub says : List Item → Print
says xs c k = ok xs k

-- stops at an element
unfoldable pub stopped : ℕ → Print
stopped e c k = stop [] e

-- prints a text that stands in the formatter itself: str(..)
unfoldable pub lit : String → Print
lit s = say (text (ascii s))

-- prints only where the test holds
unfoldable pub when : Bool → Print → Print
when true p = p
when false p = none

-- prints only in the keeping mode
unfoldable pub keeping : Print → Print
keeping p c = when (keeps c.mode) p c

-- a printing that knows the number of the list that it begins
unfoldable pub with_number : (ℕ → Print) → Print
with_number f c k = f k c k

-- begins the run of the next list, and so takes its number
unfoldable pub open_run : Print
open_run c k = ok (run k ∷ []) (suc k)

-- a printing whose lists are numbered from n
unfoldable pub starting_at : ℕ → Print → Print
starting_at n p c k = p c n
