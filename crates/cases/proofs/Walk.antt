-- Fields passed one by one.
use Rattle.std.proofs.Common.{◌≡◌, ℕ, suc, ◌+◌, ◌-◌, ◌≤◌, List, length, drop, refl, ap, ◌∙◌, add-one, arith, length-drop}
use Rattle.cases.specs.Fields.{le16, behind_fields}

-- the first i of n fields are passed, each of which takes a byte at least
pub record Passed (s : List ℕ) (n i : ℕ) (rest : List ℕ) : Type 0 where
  pub few : i ≤ n
  pub left : rest ≡ behind_fields i s
  pub short : length rest ≤ length s - i

pub passed_none : (s : List ℕ) (n : ℕ) → Passed s n 0 s
unfolding behind_fields
passed_none s n = record { few = omega arith; left = refl; short = omega arith }

pub passed-more : {s : List ℕ} {n i : ℕ} {rest next : List ℕ} {k : ℕ} → Passed s n i rest → suc i ≤ n → k ≡ le16 rest → next ≡ drop (2 + k) rest → Passed s n (i + 1) next
unfolding behind_fields
passed-more {i = i} {rest} {next} {k} h l p q =
    record { few = omega arith; left = rw (q, p, h.left, add-one i); short = omega (arith, ap length q ∙ length-drop (2 + k) rest, h.short) }
