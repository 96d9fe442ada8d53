-- Walks over the children of a reading.
use Rattle.std.specs.Prelude.{◌≡◌, ℕ, ◌+◌, Bool, true, false, List}
use mathlib.Core.Path.{refl, sym, ◌∙◌}
use mathlib.Core.Option.{Option, none as nothing, some}
use native.Mathlib.Omega.{arith}
use Rattle.items.specs.Item.{Print}
use Rattle.tree.specs.Tree.{Part}
use Rattle.tree.specs.declared.class.Class.{Class}
use Rattle.tree.specs.declared.class.Kinds.{Kinds}
use Rattle.tree.specs.Class.{kinds, number_of}
use Rattle.tree.specs.Index.{end_at}
use Rattle.tree.proofs.Children.{table}
use Rattle.children.specs.declared.between.Bounds.{Bounds}
use Rattle.children.specs.declared.gap.End.TheVariants as End
use Rattle.children.specs.declared.gap.Span.{Span}
use Rattle.children.specs.Reading.{Child}
use Rattle.children.specs.Stretch.{Stretch, here, jump}
use Rattle.children.specs.Spans.{Spans, spanned}
use Rattle.children.specs.Between.{Bounded}
use Rattle.children.proofs.Uses.{span-reached}
use Rattle.children.proofs.Whole.{whole}
use Rattle.children.proofs.Stretch.{stretch_both}
use Rattle.printer.specs.Print.{part_or, children}
use Rattle.printer.specs.Under.{At, Kid}
use Rattle.printer.specs.Walked.{Turn, around, walked}
use Rattle.printer.proofs.Walked.{InTurn, children-turn, walk-read}
use Rattle.printer.proofs.Under.{kid_of, kid_at}
use Rattle.printer.specs.Reads.{number_or, Within, read_at, Whole, kids_in, Walks}

-- a part prints by its number
pub part-number : (pr : ℕ → Print) (p : Print) (x : Option Part) → part_or pr p x ≡ number_or pr p (number_of x)
unfolding part_or number_or
part-number pr p nothing = refl
part-number pr p (some x) = refl

-- a reading between two parts is one
pub within : {image index : List ℕ} {i : ℕ} {s e : Option ℕ} {z : Bounds} → At image index i → Bounded image index (i + 1) (end_at index i) s e z → Within image index i z
within a b = record { at = a; region = b.region; reached = b.reached; inside = b.within }

-- at the first gap of a reading
pub walks-first : (c : Class) {image index : List ℕ} {i : ℕ} {z : Bounds} {s : Span} → Within image index i z → Spans image index (kinds c) z.loose false z.from z.to s
    → Walks image index i (kinds c) z.loose z.to s
walks-first c w h = record {
  at = w.at;
  lies = h.lies;
  onward = h.inside;
  reached = stretch_both w.reached (span-reached h);
  inside = w.inside;
}

module _ {image index : List ℕ} {i : ℕ} {w : Kinds} {loose : Bool} {b : ℕ} {s : Span} (h : Walks image index i w loose b s) where
  -- the child behind a gap
  pub walks-kid : s.end ≡ End.Child → Kid image index i s.to
  walks-kid e = kid_of h.at h.reached (omega (arith, h.onward e, h.inside))

-- behind a child of element i
pub behind_kid : {image index : List ℕ} {i j : ℕ} → Kid image index i j → Stretch image index j (end_at index j)
behind_kid {image} {index} {i} {j} k =
    let t = table k.at.indexed in
    record { n = _; table = t; upto = t.inside j (kid_at k).within; jumps = jump (kid_at k).within here }

-- at the next gap
pub walks_next : {image index : List ℕ} {i : ℕ} {w : Kinds} {loose : Bool} {b next : ℕ} {s t : Span} → Walks image index i w loose b s → s.end ≡ End.Child
    → next ≡ end_at index s.to → Spans image index w loose true next b t → Walks image index i w loose b t
walks_next h e q k = record {
  at = h.at;
  lies = k.lies;
  onward = k.inside;
  reached = stretch_both h.reached (stretch_both (rw q (behind_kid (walks-kid h e))) (span-reached k));
  inside = h.inside;
}

-- the children of a reading, printed by a walk from its first gap
pub read_walk : {F : List Child → Print} {turn : Turn} (t : InTurn F turn) (c : Class) {image index : List ℕ} {z : Bounds} {s : Span} → Spans image index (kinds c) z.loose false z.from z.to s
    → (r : Whole (read_at image index c z nothing)) → F r.kids ≡ walked turn (spanned image index (kinds c) z.loose z.to s)
read_walk t c {z = z} h r = walk-read t _ (sym (whole c z.loose _) ∙ r.is) ∙ rw h.read

-- those of a list
pub items-walk : (c : Class) (pr : ℕ → Print) (f g : Bool → Print) {image index : List ℕ} {z : Bounds} {s : Span} → Spans image index (kinds c) z.loose false z.from z.to s
    → Whole (read_at image index c z nothing) → children pr f g (kids_in (read_at image index c z nothing)) ≡ walked (around pr f g) (spanned image index (kinds c) z.loose z.to s)
unfolding kids_in
items-walk c pr f g h r = rw r.is (read_walk (children-turn pr f g) c h r)
