-- A copy into a buffer, and the room for it.
use Rattle.std.proofs.Common.{◌≡◌, ℕ, ◌+◌, ◌<◌, ◌≤◌, List, ◌++◌, length, take, drop, refl, arith, drop-drop, le-leb}
use borrow.Author.Tests.{lt-leb}
use Rattle.cases.specs.Stores.{stored, stored_end}

module _ (b s : List ℕ) (at : ℕ) where
  pub no_room : length b < at + length s → (b ≡ stored b at s) × (at ≡ stored_end b at s)
  unfolding stored stored_end
  no_room h = rw (lt-leb (at + length s) (length b) h) (refl, refl)

  -- the k bytes of b from the place on became those of s
  pub room : {p : List ℕ} {k : ℕ} → at + length s ≤ length b → k ≡ length s → p ≡ s → take at b ++ (p ++ drop k (drop at b)) ≡ stored b at s
  unfolding stored
  room h e q = rw (le-leb (at + length s) (length b) h) (rw (q, e, drop-drop (length s) at b) refl)

  pub room_end : at + length s ≤ length b → length s + at ≡ stored_end b at s
  unfolding stored_end
  room_end h = rw (le-leb (at + length s) (length b) h) (omega arith)
