-- Decoding gives back what was encoded.
use mathlib.Core.Path.{◌≡◌, refl}
use mathlib.Core.Option.{some}
use mathlib.Core.List.{List, [], ◌∷◌, ◌++◌, append_assoc}
use Prim.Native.Nat.{ℕ, ◌+◌, ◌*◌}
use native.Mathlib.Omega.{arith}
use lib.ListN.{length, length-append}
use lib.Seq.{drop-append_seam, take-append_seam}
use borrow.Author.Tests.{le-leb}
use Rattle.items.specs.Item.{always, lines, Item, signal, text, mark, run, run_end, again, if_test}
use Rattle.items.specs.Records.{record_of, bytes_of, words, bytes, stored, item_of, decoded, record_size}
use Rattle.items.proofs.Signals.{plain}

stored_is : (p s r : List ℕ) → stored (p ++ (s ++ r)) (length p) (length s) ≡ some (text s)
stored_is p s r =
    rw (le-leb (length p + length s) (length (p ++ (s ++ r))) (rw (length-append p (s ++ r), length-append s r) (omega arith)), drop-append_seam, take-append_seam) refl

-- a record gives its item back
record_is : (p r : List ℕ) (x : Item) → let w = record_of (length p) x in item_of (p ++ (bytes_of x ++ r)) w.kind w.first w.second ≡ some x
unfolding item_of
record_is p r (text s) = stored_is p s r
record_is p r (signal s) = (plain s).decodes (p ++ ([] ++ r))
record_is p r (mark m) = refl
record_is p r (run m) = refl
record_is p r (run_end m) = refl
record_is p r (again m) = refl
record_is p r (if_test always) = refl
record_is p r (if_test (lines m)) = refl

decoded-from : (p : List ℕ) (xs : List Item) (ws ts : List ℕ) → decoded (words (length p) xs ++ ws) (p ++ (bytes xs ++ ts)) (length xs) ≡ some xs
unfolding words bytes decoded
decoded-from p [] ws ts = refl
decoded-from p (x ∷ xs) ws ts =
    let h = rw (length-append p (bytes_of x), append_assoc p (bytes_of x) (bytes xs ++ ts)) at (decoded-from (p ++ bytes_of x) xs ws ts) in
    rw (append_assoc (bytes_of x) (bytes xs) ts, record_is p (bytes xs ++ ts) x, h) refl

-- decoding what was encoded gives the items again, whatever stands behind them in the buffers
pub decoded_is : (xs : List Item) (ws ts : List ℕ) → decoded (words 0 xs ++ ws) (bytes xs ++ ts) (length xs) ≡ some xs
decoded_is xs ws ts = decoded-from [] xs ws ts

-- each record takes as many words
pub words-length : (at : ℕ) (xs : List Item) → length (words at xs) ≡ record_size * length xs
unfolding words
words-length at [] = refl
words-length at (x ∷ xs) = omega (arith, words-length (at + length (bytes_of x)) xs)
