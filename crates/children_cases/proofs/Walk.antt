-- A walk from gap to gap.
use Rattle.std.proofs.Common.{◌≡◌, ℕ, ◌-◌, ◌<◌, Bool, true, List, arith}
use Rattle.tree.specs.declared.class.Kinds.{Kinds}
use Rattle.tree.specs.Index.{end_at}
use Rattle.tree.proofs.Siblings.{region-past}
use Rattle.children.specs.declared.gap.Span.{Span}
use Rattle.children.specs.Gaps.{is_child}
use Rattle.children.specs.Spans.{Spans, Surveying}
use Rattle.children.proofs.Stretch.{jumps-le}
use Rattle.children.proofs.Uses.{child_is}

module _ {index image : List ℕ} {b : ℕ} {s : Span} (h : Surveying image index b s 0) {t : Bool} (i : t ≡ is_child s.end) (e : t ≡ true) {next : ℕ} (q : next ≡ end_at index s.to) where
  pub walk-less : {w : Kinds} {l : Bool} {g : Span} → Spans image index w l true next b g → b - g.to < b - s.to
  walk-less k =
      let d = h.inside (child_is s.end i e) in
      omega (arith, d, region-past h.onward d, q, k.begins, jumps-le k.lies.first.table k.lies.first.jumps, jumps-le k.lies.second.table k.lies.second.jumps)
