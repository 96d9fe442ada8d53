-- What the code counts while it walks a gap, and what its numbers say of the gap.
use Rattle.std.specs.Prelude.{◌≡◌, false, cond, not, ◌&&◌, ◌||◌, Bool, List, reverse, ℕ, ◌+◌, eqb}
use Rattle.text.specs.Basic.{any, is_nil}
use Rattle.tree.specs.Tree.{Part}
use Rattle.tree.specs.Class.{is, of_kind}
use Rattle.tree.specs.declared.class.Class.TheVariants as Class
use Rattle.children.specs.declared.tally.Tally.{Tally}
use Rattle.children.specs.Reading.{newlines_before, newlines_back}

-- nothing counted
abbrev pub nothing : Tally
nothing = record { before = 0; back = 0; waits = false; ended = false; noted = false }

-- one element more, of kind k and with f line feeds if it is whitespace: before the cut, if the cut goes on with it, else behind
unfoldable pub counted : Bool → ℕ → ℕ → Tally → Tally
counted follows k f t = record {
  before = t.before + cond t.ended 0 (cond follows 0 f + cond (of_kind Class.CustomError k) 1 0);
  back = cond follows (cond (of_kind Class.SingleLine k) 1 (f + t.back)) t.back;
  waits = (t.waits || of_kind Class.CustomError k) || (of_kind Class.Trivia k && not follows);
  ended = t.ended || ((of_kind Class.Trivia k && not (eqb k 64)) && not follows);
  noted = (t.noted || of_kind Class.CustomError k) || (of_kind Class.Trivia k && not (eqb k 64));
}

-- more than whitespace
abbrev pub speaks : Part → Bool
speaks x = not (eqb x.kind 64)

-- neither whitespace nor a custom error: at it the newlines before a child end
abbrev pub closes : Part → Bool
closes x = speaks x && not (is Class.CustomError x)

-- What a tally says of a gap with this inline trivia, and with what waits.
pub record Tells (inline waiting : List Part) (t : Tally) : Type 0 where
  -- the newlines of what waits
  pub before : t.before ≡ newlines_before waiting
  -- the newlines of the inline trivia
  pub back : t.back ≡ newlines_back (reverse inline)
  -- something waits
  pub waits : t.waits ≡ not (is_nil waiting)
  -- trivia waits that is no whitespace
  pub ended : t.ended ≡ any closes waiting
  -- there is more than whitespace
  pub noted : t.noted ≡ (any speaks inline || any speaks waiting)
