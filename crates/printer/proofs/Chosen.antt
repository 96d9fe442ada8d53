-- Printings that a test, a kind of list or a number picks.
use Rattle.std.specs.Prelude.{◌≡◌, ℕ, ◌*◌, Bool, true, false}
use Rattle.items.specs.Item.{Test, always, lines, mark, Print, say, lit, when}
use Rattle.tree.specs.Source.{Source}
use Rattle.plan.specs.declared.Planner.{Planner}
use Rattle.plan.specs.Plans.{Plans}
use Rattle.plan.proofs.Laws.{idle}
use Rattle.printer.specs.declared.lists.Style.{Style}
use Rattle.printer.specs.Combine.{only_if, comma, test_of}
use Rattle.printer.specs.Lists.{on_line, behind_it}

-- ---- tests

pub when_yes : {src : Source} (b : Bool) (p : Print) {o a : Planner} → b ≡ true → Plans src p o a → Plans src (when b p) o a
unfolding when
when_yes b p e h = rw e h

pub when_no : {src : Source} (b : Bool) (p : Print) {o : Planner} → b ≡ false → Plans src (when b p) o o
unfolding when
when_no b p e = rw e idle

-- by another test with the same answer
pub when_as : {src : Source} (p : Print) {b d : Bool} {o a : Planner} → d ≡ b → Plans src (when d p) o a → Plans src (when b p) o a
when_as p e h = rw e at h

pub comma-more : {src : Source} (b : Bool) (t : Test) {o a : Planner} → b ≡ true → Plans src (lit ",") o a → Plans src (comma b t) o a
unfolding comma
comma-more b t e h = rw e h

pub comma-last : {src : Source} (b : Bool) (t : Test) {o a : Planner} → b ≡ false → Plans src (only_if t (lit ",")) o a → Plans src (comma b t) o a
unfolding comma
comma-last b t e h = rw e h

-- ---- lists

pub on_line_of : {src : Source} (t : Test) (m : Bool) {x y : Style} {o a : Planner} → x ≡ y → Plans src (on_line y t m) o a → Plans src (on_line x t m) o a
on_line_of t m e h = rw e h

pub behind_of : {src : Source} (t : Test) (m : Bool) {x y : Style} {o a : Planner} → x ≡ y → Plans src (behind_it y t m) o a → Plans src (behind_it x t m) o a
behind_of t m e h = rw e h

pub test-many : (b : Bool) (k : ℕ) → b ≡ true → always ≡ test_of b k
unfolding test_of
test-many b k e = rw e

pub test-lines : (b : Bool) (k : ℕ) {m : ℕ} → b ≡ false → m ≡ 2 * k → lines m ≡ test_of b k
unfolding test_of
test-lines b k e f = rw (e, f)

-- a mark by another name
pub mark_as : {src : Source} {m n : ℕ} {o a : Planner} → m ≡ n → Plans src (say (mark m)) o a → Plans src (say (mark n)) o a
mark_as e h = rw e at h
