use mathlib.Core.Path.{◌≡◌, refl, ap, ◌∙◌}
use mathlib.Core.List.{List, [], ◌∷◌}
use Prim.Native.Nat.{ℕ, zero, suc, ◌+◌, ◌-◌, ◌*◌, ◌<◌, ◌≤◌, min}
use native.Mathlib.Omega.{arith}
use native.Mathlib.Numerals.{add-one}
use lib.ListN.{length, set, get_or, take, drop, length-set, length-drop}
use lib.Seq.{set_out, drop-cons}
use Rattle.items.specs.Machine.{store, store_record}
use Rattle.items.specs.Records.{record_size}

-- What is stored past the end of a buffer is dropped: as many values as there is room for do the same.
store-take : (vs b : List ℕ) (at n : ℕ) → min (length b) (at + length vs) ≤ at + n → store b at (take n vs) ≡ store b at vs
unfolding store
store-take [] b at zero h = refl
store-take [] b at (suc n) h = refl
store-take (v ∷ vs) b at zero h = rw (set_out b at v (omega arith)) (store-take vs b (suc at) zero (omega arith))
store-take (v ∷ vs) b at (suc n) h = store-take vs (set b at v) (suc at) n (omega (arith, length-set b at v))

-- What a loop that stores s from `at` on keeps, up to place i: what is still to be stored gives the whole.
pub record Storing (b₀ : List ℕ) (at : ℕ) (s b : List ℕ) (i : ℕ) : Type 0 where
  pub from : at ≤ i
  pub kept : length b ≡ length b₀
  pub rest : store b i (drop (i - at) s) ≡ store b₀ at s

pub storing_none : (b s : List ℕ) (at : ℕ) → Storing b at s b at
storing_none b s at = let n : at - at ≡ 0 = omega arith in record { from = omega arith; kept = refl; rest = rw n }

pub storing_more : {b₀ b b' s : List ℕ} {at i end : ℕ} → Storing b₀ at s b i → end ≡ min (length b₀) (at + length s) → i < end → b' ≡ set b i (get_or s (i - at) 0) → Storing b₀ at s b' (i + 1)
unfolding store
storing_more {b₀} {b} {b'} {s} {at} {i} k m l e =
    let n : i + 1 - at ≡ suc (i - at) = omega (arith, k.from) in
    let h : i - at < length s = omega (arith, k.from) in
    record {
      from = omega (arith, k.from);
      kept = ap length e ∙ length-set b i (get_or s (i - at) 0) ∙ k.kept;
      rest = rw (e, n, add-one i) (rw (drop-cons s (i - at) 0 h) at k.rest);
    }

-- where there is room for no more, nothing is stored
pub storing_all : {b₀ b s : List ℕ} {at i end : ℕ} → Storing b₀ at s b i → end ≡ min (length b₀) (at + length s) → end ≤ i → b ≡ store b₀ at s
unfolding store
storing_all {b₀} {b} {s} {at} {i} k e h = store-take (drop (i - at) s) b i 0 (omega (arith, k.from, k.kept, length-drop (i - at) s)) ∙ k.rest

-- three stores in a row are a record
pub three-words : (b b₁ b₂ b₃ : List ℕ) (n k f s : ℕ) → b₁ ≡ set b (record_size * n) k → b₂ ≡ set b₁ (record_size * n + 1) f → b₃ ≡ set b₂ (record_size * n + 2) s → b₃ ≡ store_record b n k f s
unfolding store
three-words b b₁ b₂ b₃ n k f s e₁ e₂ e₃ =
    let h₁ : record_size * n + 1 ≡ suc (record_size * n) = omega arith in
    let h₂ : record_size * n + 2 ≡ suc (suc (record_size * n)) = omega arith in
    rw (e₃, e₂, e₁, h₁, h₂)
