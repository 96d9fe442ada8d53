-- The length of a refusal's line.
use Prim.Native.Nat.{ℕ, ◌<◌, ◌≤◌, ◌^◌}
use native.Mathlib.Omega.{arith}
use lib.ListN.{length, length-append}
use Rattle.items.proofs.Decimals.{decimal-wide}
use Rattle.listing.specs.Listing.{refused_line}

pub refused-short : (n e : ℕ) → n < 2 ^ 64 → e < 2 ^ 64 → length (refused_line n e) ≤ 50
unfolding refused_line
refused-short n e h k = simp length-append (omega (arith, decimal-wide n h, decimal-wide e k))
