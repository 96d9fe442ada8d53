-- One reading behind another.
use Rattle.std.proofs.Common.{◌≡◌, ℕ, ◌+◌, List, ◌++◌, take, drop, Option, Some, None, sym, ap, ◌∙◌, append_assoc}
use Rattle.std.proofs.Math.Seq.{take-add}
use Rattle.std.specs.Io.KnownBytes.{Consumes}

-- what was consumed in two steps, the second behind the first
consumes_both : (old mid new : Option (List ℕ)) (xs ys : List ℕ) → Consumes old mid xs → Consumes mid new ys → Consumes old new (xs ++ ys)
consumes_both None mid new xs ys p q = tt
consumes_both (Some us) None new xs ys p q = absurd p
consumes_both (Some us) (Some vs) None xs ys p q = absurd q
consumes_both (Some us) (Some vs) (Some ws) xs ys p q = p ∙ ap (λ zs. xs ++ zs) q ∙ sym (append_assoc xs ys ws)

-- the first n bytes of a buffer were read, and then k bytes behind them, which stay
pub read_more : (old mid new : Option (List ℕ)) (s t : List ℕ) (n k : ℕ) → Consumes old mid (take n s) → take n t ≡ take n s → Consumes mid new (take k (drop n t)) → Consumes old new (take (n + k) t)
read_more old mid new s t n k p e q = rw (take-add n k t, e) (consumes_both old mid new (take n s) (take k (drop n t)) p q)
