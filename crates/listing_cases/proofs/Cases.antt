-- A record of one text can be listed, whatever its bytes are.
use mathlib.Core.Path.{◌≡◌, refl, ap}
use mathlib.Core.List.{List, [], ◌∷◌, append-nil}
use Prim.Native.Nat.{ℕ}
use native.Mathlib.Omega.{arith}
use lib.ListN.{length, take}
use lib.Seq.{take_all}
use Rattle.text.specs.Basic.{sum, All, ∅, ◌▹◌}
use Rattle.items.specs.declared.Count.{Count}
use Rattle.items.specs.Item.{text}
use Rattle.items.specs.Records.{bytes, decoded, item_of}
use Rattle.items.proofs.Fits.{Short}
use Rattle.items.proofs.Lengths.{lines-short}
use Rattle.listing.specs.Listable.{Listable}
use Rattle.listing.proofs.Listable.{listable}

-- the counts of a text of so many bytes
abbrev one_text : Count
one_text = record { records = 1; texts = 256; runs = 0; marks = 0 }

pub text-listable : (ts : List ℕ) → length ts ≡ 256 → Listable (1 ∷ 0 ∷ 256 ∷ []) ts one_text
unfolding bytes decoded item_of sum
text-listable ts h =
    let t : take 256 ts ≡ ts = take_all 256 ts (omega (arith, h)) in
    let s : All Short (text ts ∷ []) = ◌▹◌ {x = text ts} (omega arith, omega (arith, h)) ∅ in
    let l = lines-short 0 s (omega arith) in
    listable (1 ∷ 0 ∷ 256 ∷ []) ts one_text (text ts ∷ []) (rw (h, t) refl) (rw (append-nil ts, h) refl) (omega (arith, h, l, ap length (append-nil ts)))
