use native.Mathlib.Omega.{arith}
use Rattle.comments.proofs.Walks.{row_before, row-found}
use Rattle.comments.proofs.rows.row.Goals as goal

pub slice_bounds-trim_end-count : goal.slice_bounds-trim_end-count
slice_bounds-trim_end-count c =
    let h = c.requires in omega (arith, row_before _ _ _ h.within h.ends)

pub slice_bounds-trim_end-start : goal.slice_bounds-trim_end-start
slice_bounds-trim_end-start c =
    let h = c.requires in omega (arith, row_before _ _ _ h.within h.ends)

pub slice_bounds-trim_end-end : goal.slice_bounds-trim_end-end
slice_bounds-trim_end-end c =
    let h = c.requires in omega (arith, row_before _ _ _ h.within h.ends)

pub returns : goal.returns
returns c =
    let h = c.requires in row-found _ _ _ _ (row_before _ _ _ h.within h.ends) c.trim_end.ensures
