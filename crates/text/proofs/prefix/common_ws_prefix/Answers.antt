use Rattle.text.proofs.Padding.{common-count, common-part}
use Rattle.text.proofs.prefix.common_ws_prefix.Goals as goal

pub slice_bounds-result-end : goal.slice_bounds-result-end
slice_bounds-result-end c = common-count _ _ c.common_length.ensures

pub returns : goal.returns
returns c = common-part _ _ c.common_length.ensures
