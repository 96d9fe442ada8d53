-- What holds of each item without operands, computed at each of the eleven.
use mathlib.Core.Path.{◌≡◌, refl}
use mathlib.Core.Option.{some}
use mathlib.Core.List.{List}
use Prim.Native.Nat.{ℕ}
use lib.ListN.{length}
use Rattle.text.specs.Basic.{ascii}
use Rattle.text.specs.Words.{word_in}
use Rattle.items.specs.declared.Signal.{Signal}
use Rattle.items.specs.declared.Signal.TheVariants.{NewLine, SpaceOrNewLine, Tab, StartIndent, FinishIndent, StartGroup, FinishGroup, StartBlock, FinishBlock, Else, EndIf}
use Rattle.items.specs.Item.{signal, signal_kind}
use Rattle.items.specs.Lines.{kind_names}
use Rattle.items.specs.Names.{names_of, name_at, described_length}
use Rattle.items.specs.Records.{item_of}

-- Its record decodes to it, and its line has its name alone.
pub record Plain (s : Signal) : Type 0 where
  pub decodes : (ts : List ℕ) → item_of ts (signal_kind s) 0 0 ≡ some (signal s)
  pub named : described_length (signal_kind s) 0 0 0 ≡ length (ascii (word_in kind_names (signal_kind s)))

pub plain : (s : Signal) → Plain s
unfolding item_of described_length name_at names_of
plain NewLine = record { decodes = λ ts. refl; named = refl }
plain SpaceOrNewLine = record { decodes = λ ts. refl; named = refl }
plain Tab = record { decodes = λ ts. refl; named = refl }
plain StartIndent = record { decodes = λ ts. refl; named = refl }
plain FinishIndent = record { decodes = λ ts. refl; named = refl }
plain StartGroup = record { decodes = λ ts. refl; named = refl }
plain FinishGroup = record { decodes = λ ts. refl; named = refl }
plain StartBlock = record { decodes = λ ts. refl; named = refl }
plain FinishBlock = record { decodes = λ ts. refl; named = refl }
plain Else = record { decodes = λ ts. refl; named = refl }
plain EndIf = record { decodes = λ ts. refl; named = refl }
