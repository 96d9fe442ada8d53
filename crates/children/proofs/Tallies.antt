-- What a tally tells of a gap's lists: one element more.
use mathlib.Core.Path.{◌≡◌, refl, ap, ◌∙◌, sym}
use mathlib.Core.Bool.{Bool, true, false, cond, not, ◌&&◌, ◌||◌, false≢true, or-true, or-false, or_assoc}
use mathlib.Core.List.{List, [], ◌∷◌, ◌++◌, append-nil, reverse, reverse-append}
use Prim.Native.Nat.{ℕ, suc, ◌+◌}
use native.Mathlib.Omega.{arith}
use lib.Dec.{eqb, leb}
use borrow.Author.Tests.{le-leb, lt-leb, leb-true, eqb-true, ne_eqb}
use Rattle.text.specs.Basic.{any, count, is_nil}
use Rattle.text.proofs.Lists.{and_true}
use Rattle.tree.specs.Tree.{Part}
use Rattle.tree.specs.Class.{is, of_kind, one_of, kinds}
use Rattle.tree.specs.declared.class.Class.TheVariants as Class
use Rattle.children.specs.declared.tally.Tally.{Tally}
use Rattle.children.specs.Reading.{is_note, newlines_before, newlines_back}
use Rattle.children.specs.Gaps.{space_in}
use Rattle.children.specs.Tally.{counted, speaks, closes, Tells}

-- ---- classes

pub not_error : (x : Part) → is Class.Trivia x ≡ true → is Class.CustomError x ≡ false
unfolding one_of kinds
not_error x e =
    let (p, _) = and_true (leb 64 x.kind && leb x.kind 69) true e in
    let (u, v) = and_true (leb 64 x.kind) (leb x.kind 69) p in
    rw (lt-leb 70 x.kind (omega (arith, leb-true x.kind 69 v)))

single-trivia : (k : ℕ) → of_kind Class.SingleLine k ≡ true → of_kind Class.Trivia k ≡ true
unfolding one_of kinds
single-trivia k e =
    let (p, _) = and_true (leb 68 k && leb k 69) true e in
    let (u, v) = and_true (leb 68 k) (leb k 69) p in
    rw (v, le-leb 64 k (omega (arith, leb-true 68 k u)))

space-trivia : (k : ℕ) → k ≡ 64 → of_kind Class.Trivia k ≡ true
unfolding one_of kinds
space-trivia k e = rw e

-- what is no trivia is no single-line comment, and no whitespace
module _ (k : ℕ) (e : of_kind Class.Trivia k ≡ false) where
  pub other-single : of_kind Class.SingleLine k ≡ false
  other-single = go (of_kind Class.SingleLine k) refl
    where
      go : (b : Bool) → of_kind Class.SingleLine k ≡ b → of_kind Class.SingleLine k ≡ false
      go true r = absurd (false≢true (sym e ∙ single-trivia k r))
      go false r = r

  pub other-space : k ≡ 64 → ⊥
  other-space q = false≢true (sym e ∙ space-trivia k q)

space-single : (x : Part) → x.kind ≡ 64 → is Class.SingleLine x ≡ false
unfolding one_of kinds
space-single x e = rw e

-- whether an element is whitespace, trivia, a custom error: it is whitespace, other trivia, a custom error, or none of these
data Sort : Bool → Bool → Bool → Type 0 where
  space : Sort true true false
  remark : Sort false true false
  error : Sort false false true
  other : Sort false false false

sort : (x : Part) → Sort (eqb x.kind 64) (is Class.Trivia x) (is Class.CustomError x)
sort x = go (eqb x.kind 64) refl (is Class.Trivia x) refl (is Class.CustomError x) refl
  where
    go : (u : Bool) → eqb x.kind 64 ≡ u → (t : Bool) → is Class.Trivia x ≡ t → (e : Bool) → is Class.CustomError x ≡ e → Sort u t e
    go u p true q true r = absurd (false≢true (sym (not_error x q) ∙ r))
    go true p false q e r = absurd (other-space x.kind q (eqb-true x.kind 64 p))
    go true p true q false r = space
    go false p true q false r = remark
    go false p false q true r = error
    go false p false q false r = other

-- ---- lists with one element more behind, if a test holds

any-more : (f : Part → Bool) (xs : List Part) (x : Part) (b : Bool) → any f (xs ++ cond b (x ∷ []) []) ≡ (any f xs || (b && f x))
unfolding any
any-more f [] x true = or-false (f x)
any-more f [] x false = refl
any-more f (y ∷ ys) x b = ap (λ (c : Bool). f y || c) (any-more f ys x b) ∙ sym (or_assoc (f y) (any f ys) (b && f x))

nil-more : (xs : List Part) (x : Part) (b : Bool) → not (is_nil (xs ++ cond b (x ∷ []) [])) ≡ (not (is_nil xs) || b)
nil-more [] x true = refl
nil-more [] x false = refl
nil-more (y ∷ ys) x b = refl

before-one : {u t e : Bool} → Sort u t e → (n : ℕ) → cond u (n + 0) (cond e 1 0) ≡ 0 + (cond u n 0 + cond e 1 0)
before-one space n = omega arith
before-one remark n = refl
before-one error n = refl
before-one other n = refl

before_more : (xs : List Part) (x : Part) → newlines_before (xs ++ x ∷ []) ≡ newlines_before xs + cond (any closes xs) 0 (space_in x + cond (is Class.CustomError x) 1 0)
unfolding newlines_before space_in any
before_more [] x = before-one (sort x) (count 10 x.text)
before_more (y ∷ ys) x = go (eqb y.kind 64) (is Class.CustomError y) _ (before_more ys x)
  where
    go : (u e : Bool) (m : ℕ) → newlines_before (ys ++ x ∷ []) ≡ newlines_before ys + cond (any closes ys) 0 m
        → cond u (count 10 y.text + newlines_before (ys ++ x ∷ [])) (cond e (suc (newlines_before (ys ++ x ∷ []))) 0)
        ≡ cond u (count 10 y.text + newlines_before ys) (cond e (suc (newlines_before ys)) 0) + cond ((not u && not e) || any closes ys) 0 m
    go true e m h = omega (arith, h)
    go false true m h = omega (arith, h)
    go false false m h = refl

-- ---- the newlines of inline trivia, from behind: a single-line comment is 1, and what stands before it does not count

back-inline : (x : Part) (xs : List Part) → is Class.Trivia x ≡ true → newlines_back (reverse (xs ++ x ∷ [])) ≡ cond (is Class.SingleLine x) 1 (space_in x + newlines_back (reverse xs))
unfolding newlines_back space_in
back-inline x xs e = rw (reverse-append xs (x ∷ []), not_error x e) (go (eqb x.kind 64) refl (is Class.SingleLine x) refl)
  where
    go : (b : Bool) → eqb x.kind 64 ≡ b → (l : Bool) → is Class.SingleLine x ≡ l
        → cond b (count 10 x.text + newlines_back (reverse xs)) (cond l 1 (newlines_back (reverse xs))) ≡ cond l 1 (cond b (count 10 x.text) 0 + newlines_back (reverse xs))
    go true q true r = absurd (false≢true (sym (space-single x (eqb-true x.kind 64 q)) ∙ r))
    go true q false r = refl
    go false q true r = refl
    go false q false r = omega arith

back-other : (x : Part) (n : ℕ) → is Class.Trivia x ≡ false → n ≡ cond (is Class.SingleLine x) 1 (space_in x + n)
unfolding space_in
back-other x n e = rw (other-single x.kind e, ne_eqb x.kind 64 (other-space x.kind e)) (omega arith)

back_more : (x : Part) (xs : List Part) → newlines_back (reverse (xs ++ cond (is Class.Trivia x) (x ∷ []) [])) ≡ cond (is Class.SingleLine x) 1 (space_in x + newlines_back (reverse xs))
back_more x xs = go (is Class.Trivia x) refl
  where
    go : (b : Bool) → is Class.Trivia x ≡ b → newlines_back (reverse (xs ++ cond b (x ∷ []) [])) ≡ cond (is Class.SingleLine x) 1 (space_in x + newlines_back (reverse xs))
    go true e = back-inline x xs e
    go false e = rw (append-nil xs) (back-other x _ e)

-- ---- tests and sums by the sort of an element

sum-inline : {u t e : Bool} → Sort u t e → (n : ℕ) → cond e (cond u n 0 + cond e 1 0) 0 ≡ 0 + cond e 1 0
sum-inline space n = refl
sum-inline remark n = refl
sum-inline error n = refl
sum-inline other n = refl

sum-waiting : {u t e : Bool} → Sort u t e → (n : ℕ) → cond (t || e) (cond u n 0 + cond e 1 0) 0 ≡ cond u n 0 + cond e 1 0
sum-waiting space n = refl
sum-waiting remark n = refl
sum-waiting error n = refl
sum-waiting other n = refl

ended-inline : {u t e : Bool} → Sort u t e → (c : Bool) → (c || ((t && not u) && false)) ≡ (c || (e && (not u && not e)))
ended-inline space c = refl
ended-inline remark c = refl
ended-inline error c = refl
ended-inline other c = refl

ended-waiting : {u t e : Bool} → Sort u t e → (c : Bool) → (c || ((t && not u) && true)) ≡ (c || ((t || e) && (not u && not e)))
ended-waiting space c = refl
ended-waiting remark c = refl
ended-waiting error c = refl
ended-waiting other c = refl

noted-inline : {u t e : Bool} → Sort u t e → (a b : Bool) → (((a || b) || e) || (t && not u)) ≡ ((a || (t && not u)) || (b || (e && not u)))
noted-inline space true b = refl
noted-inline space false b = or-false (b || false)
noted-inline remark true b = refl
noted-inline remark false b = or-true (b || false)
noted-inline error true b = refl
noted-inline error false b = or-false (b || true)
noted-inline other true b = refl
noted-inline other false b = or-false (b || false)

noted-waiting : {u t e : Bool} → Sort u t e → (a b : Bool) → (((a || b) || e) || (t && not u)) ≡ (a || (b || ((t || e) && not u)))
noted-waiting space true b = refl
noted-waiting space false b = or-false (b || false)
noted-waiting remark true b = refl
noted-waiting remark false b = ap (λ (c : Bool). c || true) (or-false b)
noted-waiting error true b = refl
noted-waiting error false b = or-false (b || true)
noted-waiting other true b = refl
noted-waiting other false b = or-false (b || false)

waits-inline : (w e t : Bool) → ((w || e) || (t && false)) ≡ (w || e)
waits-inline w e true = or-false (w || e)
waits-inline w e false = or-false (w || e)

waits-waiting : (w e t : Bool) → ((w || e) || (t && true)) ≡ (w || (t || e))
waits-waiting true e t = refl
waits-waiting false e true = or-true e
waits-waiting false e false = or-false e

-- ---- what a tally tells

module _ {ps ws : List Part} {t : Tally} (K : Tells ps ws t) (x : Part) where
  before-told : (b : Bool) {m : ℕ} → cond b (space_in x + cond (is Class.CustomError x) 1 0) 0 ≡ m → t.before + cond t.ended 0 m ≡ newlines_before (ws ++ cond b (x ∷ []) [])
  before-told true e = rw (before_more ws x, K.before, K.ended, e)
  before-told false e = rw (append-nil ws, K.before, ← e) (go t.ended)
    where
      go : (c : Bool) → newlines_before ws + cond c 0 0 ≡ newlines_before ws
      go true = omega arith
      go false = omega arith

  -- one element more before the cut
  pub tells-inline : Tells (ps ++ cond (is Class.Trivia x) (x ∷ []) []) (ws ++ cond (is Class.CustomError x) (x ∷ []) []) (counted true x.kind (space_in x) t)
  unfolding counted space_in
  tells-inline = record {
    before = before-told (is Class.CustomError x) (sum-inline (sort x) (count 10 x.text));
    back = rw (back_more x ps, K.back);
    waits = rw (nil-more ws x (is Class.CustomError x), K.waits) (waits-inline (not (is_nil ws)) (is Class.CustomError x) (is Class.Trivia x));
    ended = rw (any-more closes ws x (is Class.CustomError x), K.ended) (ended-inline (sort x) (any closes ws));
    noted = rw (any-more speaks ps x (is Class.Trivia x), any-more speaks ws x (is Class.CustomError x), K.noted) (noted-inline (sort x) (any speaks ps) (any speaks ws));
  }

  -- one element more behind it
  pub tells-waiting : Tells ps (ws ++ cond (is_note x) (x ∷ []) []) (counted false x.kind (space_in x) t)
  unfolding counted space_in
  tells-waiting = record {
    before = before-told (is_note x) (sum-waiting (sort x) (count 10 x.text));
    back = K.back;
    waits = rw (nil-more ws x (is_note x), K.waits) (waits-waiting (not (is_nil ws)) (is Class.CustomError x) (is Class.Trivia x));
    ended = rw (any-more closes ws x (is_note x), K.ended) (ended-waiting (sort x) (any closes ws));
    noted = rw (any-more speaks ws x (is_note x), K.noted) (noted-waiting (sort x) (any speaks ps) (any speaks ws));
  }
