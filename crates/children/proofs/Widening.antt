-- Gaps that are widened in front.
use mathlib.Core.Path.{◌≡◌, refl}
use mathlib.Core.List.{List, [], ◌++◌, append_assoc}
use Rattle.tree.specs.Tree.{Part}
use Rattle.children.specs.Gaps.{Gaps, widen, child, stopped, ending}

-- nothing more in front
pub widen_none : (gs : Gaps) → widen [] [] gs ≡ gs
unfolding widen
widen_none (stopped g n) = refl
widen_none (ending g) = refl
widen_none (child g x gs) = refl

-- more in front twice
pub widen-both : (xs ys us vs : List Part) (gs : Gaps) → widen xs ys (widen us vs gs) ≡ widen (xs ++ us) (ys ++ vs) gs
unfolding widen
widen-both xs ys us vs (stopped g n) = rw (append_assoc xs us g.inline, append_assoc ys vs g.waiting)
widen-both xs ys us vs (ending g) = rw (append_assoc xs us g.inline, append_assoc ys vs g.waiting)
widen-both xs ys us vs (child g x gs) = rw (append_assoc xs us g.inline, append_assoc ys vs g.waiting)
