-- Whether an image was indexed, from the answer of the tests and the room of the table.
use mathlib.Core.Path.{◌≡◌, refl, sym}
use mathlib.Core.Bool.{false, false≢true}
use mathlib.Core.Option.{Option, none, some}
use mathlib.Core.List.{List}
use Prim.Native.Nat.{ℕ, ◌+◌, ◌*◌, ◌<◌}
use native.Mathlib.Omega.{arith}
use lib.ListN.{length}
use borrow.Author.Tests.{lt-leb}
use Rattle.numbers.specs.declared.refusal.Refusal as numbers
use Rattle.tree.specs.Tree.{count_n, count_b}
use Rattle.tree.specs.Refusal.{Refusal, refusal}
use Rattle.tree.specs.Answer.{said, answer, answered}
use Rattle.std.specs.Prelude.{Result, Ok, Err}
use Rattle.tree.specs.declared.Accepted.{Accepted}
use Rattle.tree.specs.Index.{index_size, indexes, Tried}
use Rattle.tree.proofs.Passing.{Passing, passing}

-- not written
untried : {image before after : List ℕ} → indexes image before ≡ false → Tried image before after false
untried e = record { told = sym e; filled = λ h. absurd (false≢true h) }

module _ {image : List ℕ} {t : Result Accepted numbers.Refusal} (h : said t ≡ answer image) where
  pub tried-refused : {before after : List ℕ} {f : numbers.Refusal} → t ≡ Err f → Tried image before after false
  unfolding answer
  tried-refused {before} {after} {f} e = untried (go (refusal image) refl (rw e at h))
    where
      go : (o : Option Refusal) → refusal image ≡ o → said (Err f) ≡ answered (count_n image) (count_b image) o → indexes image before ≡ false
      go none q k = absurd (let z : ◌≡◌ {A = ℕ} 0 1 = cc in omega arith)
      go (some r) q k = rw q

  module _ {a : Accepted} (e : t ≡ Ok a) where
    passes : Passing image a.elements a.bytes
    passes = passing image a.elements a.bytes (rw e at h)

    pub tried-short : {before after : List ℕ} → length before < a.elements * 3 + 3 → Tried image before after false
    tried-short {before} k = untried (rw (passes.unrefused, lt-leb (index_size image) (length before) (omega (arith, passes.elements))))
