-- What does not depend on the mode: the refusals 1 to 10, and the runs of a tree that none of them turns away.
use mathlib.Core.Path.{◌≡◌, refl}
use mathlib.Core.Option.{Option, none, some}
use mathlib.Core.List.{List}
use Prim.Native.Nat.{ℕ}
use native.Mathlib.Omega.{arith}
use Rattle.numbers.specs.declared.mode.Mode.{Mode}
use Rattle.items.specs.Item.{Item, Out, in_mode}
use Rattle.items.specs.Role.{runs_of}
use Rattle.tree.specs.Tree.{tree_of}
use Rattle.tree.specs.Refusal.{Refusal, refusal}
use Rattle.printer.specs.Print.{source_file}
use Rattle.formatter.specs.Answer.{Verdict, turned_away, printed, from_printing, from_tests, verdict}
use Rattle.formatter.proofs.Agree.{agree, Alike, stops, gives, ends_alike}
use Rattle.formatter.proofs.Answering.{same_ok}

-- Both are the same refusal, or both are items with as many runs.
data Equal : Verdict → Verdict → Type 0 where
  refused : (n e : ℕ) → Equal (turned_away n e) (turned_away n e)
  accepted : {xs ys : List Item} → runs_of xs ≡ runs_of ys → Equal (printed xs) (printed ys)

module _ (m n : Mode) (image : List ℕ) where
  equal : Equal (verdict m image) (verdict n image)
  unfolding verdict from_tests from_printing
  equal = go (refusal image)
    where
      first : Out
      first = source_file (tree_of image) (in_mode m) 0

      second : Out
      second = source_file (tree_of image) (in_mode n) 0

      print : (o o' : Out) → first ≡ o → second ≡ o' → Alike o o' → Equal (from_printing o) (from_printing o')
      print o o' e f (stops x) = refused 10 x
      print o o' e f (gives {xs} {ys} k) =
          let (a, _, _) = same_ok xs k (rw e at (agree (tree_of image) (in_mode m) 0)) in
          let (b, _, _) = same_ok ys k (rw f at (agree (tree_of image) (in_mode n) 0)) in
          accepted {xs = xs} {ys = ys} (omega (arith, a, b))

      go : (r : Option Refusal) → Equal (from_tests r (from_printing first)) (from_tests r (from_printing second))
      go none = print first second refl refl (ends_alike (tree_of image) (in_mode m) (in_mode n) 0)
      go (some r) = refused r.number r.element

  -- what the tests 1 to 10 turn away in one mode they turn away in the other, by the same number and at the same element
  pub refused-in-both : {r e : ℕ} → verdict m image ≡ turned_away r e → verdict n image ≡ turned_away r e
  refused-in-both {r} {e} h = go (rw h at equal)
    where
      go : {v : Verdict} → Equal (turned_away r e) v → v ≡ turned_away r e
      go (refused x y) = refl

  -- what they let pass prints as many runs
  pub printed-in-both : {xs : List Item} → verdict m image ≡ printed xs → (ys : List Item) × (verdict n image ≡ printed ys) × (runs_of xs ≡ runs_of ys)
  printed-in-both {xs} h = go (rw h at equal)
    where
      go : {v : Verdict} → Equal (printed xs) v → (ys : List Item) × (v ≡ printed ys) × (runs_of xs ≡ runs_of ys)
      go (accepted {ys = ys} i) = (ys, refl, i)
