-- Test 8 and the forms of comments: which accepted tokens are no forms.
use mathlib.Core.Path.{◌≡◌, refl, sym, ◌∙◌}
use mathlib.Core.Bool.{Bool, true, false, cond, not, ◌&&◌, ◌||◌, false≢true, and-false, and_assoc, or-true, or-false, not-not}
use mathlib.Core.Option.{some}
use mathlib.Core.List.{List, [], ◌∷◌}
use Prim.Native.Nat.{ℕ, suc, ◌-◌, ◌<◌, ◌≤◌}
use native.Mathlib.Omega.{arith}
use native.Mathlib.Decide.{dec_lt, ℕ_discrete}
use lib.Dec.{eqb}
use lib.ListN.{length, drop, length-drop}
use borrow.Author.Tests.{ne_eqb, not-true, le-leb, lt-leb, le-ltb, lt-ltb}
use Rattle.text.specs.Basic.{ascii, is_nil, starts_with}
use Rattle.text.specs.Text.{ends_with}
use Rattle.text.proofs.Lists.{and_true}
use Rattle.tree.specs.Tree.{Element}
use Rattle.tree.specs.Refusal.{misformed, misformed_block}
use Rattle.tree.specs.CommentForms.{behind_first, is_over, formed, line_feed, is_form, stands, but_last, only_last, ends_once}
use Rattle.tree.proofs.Comments.{misformed-hash, misformed-slash, misformed-multi}

-- a longer text does not stand in a shorter one
starts-short_lem : (t s : List ℕ) → length s < length t → starts_with t s ≡ false
unfolding starts_with
starts-short_lem [] s h = absurd (omega arith)
starts-short_lem (x ∷ t) [] h = refl
starts-short_lem (x ∷ t) (b ∷ s) h = rw (starts-short_lem t s (omega arith)) (and-false (eqb x b))

stands-short : (t s : List ℕ) → length s < length t → stands t s ≡ false
unfolding stands
stands-short t [] h = refl
stands-short t (b ∷ s) h = rw (starts-short_lem t (b ∷ s) h) (stands-short t s (omega arith))

-- without its last byte a text begins with t where t is not all of it
starts-but_last : (t s : List ℕ) (x b : ℕ) → starts_with (x ∷ t) (but_last (b ∷ s)) ≡ (starts_with (x ∷ t) (b ∷ s) && not (is_nil (drop (length t) s)))
unfolding starts_with but_last
starts-but_last [] [] x b = sym (and-false (eqb x b && true))
starts-but_last (y ∷ t) [] x b = sym (and-false (eqb x b && false))
starts-but_last [] (c ∷ s) x b = sym (and_assoc (eqb x b) true true)
starts-but_last (y ∷ t) (c ∷ s) x b = rw (starts-but_last t s y c) (sym (and_assoc (eqb x b) (starts_with (y ∷ t) (c ∷ s)) (not (is_nil (drop (length t) s)))))

stands-but_last : (t s : List ℕ) (x b : ℕ) → stands (x ∷ t) (but_last (b ∷ s)) ≡ (starts_with (x ∷ t) (but_last (b ∷ s)) || stands (x ∷ t) (but_last s))
unfolding starts_with stands but_last
stands-but_last t [] x b = refl
stands-but_last t (c ∷ s) x b = refl

but_last-length : (s : List ℕ) → length (but_last s) ≤ length s
unfolding but_last
but_last-length [] = omega arith
but_last-length (b ∷ []) = omega arith
but_last-length (b ∷ c ∷ s) = omega (arith, but_last-length (c ∷ s))

nil-drop : (n : ℕ) (s : List ℕ) → is_nil (drop n s) ≡ true → length s ≤ n
nil-drop n s h = go (drop n s) h (length-drop n s)
  where
    go : (r : List ℕ) → is_nil r ≡ true → length r ≡ length s - n → length s ≤ n
    go [] h e = omega arith
    go (c ∷ r) h e = absurd (false≢true h)

starts-long : (t s : List ℕ) → starts_with t s ≡ true → length t ≤ length s
starts-long t s h = go (dec_lt (length s) (length t))
  where
    go : Dec (length s < length t) → length t ≤ length s
    go (yes p) = absurd (false≢true (sym (starts-short_lem t s p) ∙ h))
    go (no p) = omega arith

-- a text ends with t where t is all of it
ends-whole : (t s : List ℕ) → length t ≡ length s → ends_with t s ≡ starts_with t s
ends-whole t s h =
    let e : length s - length t ≡ 0 = omega arith in
    rw (le-leb (length t) (length s) (omega arith), e)

-- where it does not begin with t, it ends with t where all behind its first byte does
ends-later : (t s : List ℕ) (b : ℕ) → starts_with t (b ∷ s) ≡ false → ends_with t (b ∷ s) ≡ ends_with t s
ends-later t s b h = go (dec_lt (length s) (length t)) (dec_lt (length (b ∷ s)) (length t))
  where
    go : Dec (length s < length t) → Dec (length (b ∷ s) < length t) → ends_with t (b ∷ s) ≡ ends_with t s
    go (yes p) (yes q) = rw (lt-leb (length t) (length s) p, lt-leb (length t) (length (b ∷ s)) q)
    go (yes p) (no q) = rw (lt-leb (length t) (length s) p) (ends-whole t (b ∷ s) (omega arith) ∙ h)
    go (no p) q =
        let e : length (b ∷ s) - length t ≡ suc (length s - length t) = omega arith in
        rw (le-leb (length t) (length s) (omega arith), le-leb (length t) (length (b ∷ s)) (omega arith), e)

ends-none : (t : List ℕ) (x : ℕ) → ends_with (x ∷ t) [] ≡ false
ends-none t x = rw (lt-leb (length (x ∷ t)) 0 (omega arith))

-- A text is over with the first t in it where it ends with t and t stands nowhere before; or, where no end is asked for, where t stands nowhere before its end.
over : (endless : Bool) (x : ℕ) (t s : List ℕ) → is_over endless (behind_first (x ∷ t) s) ≡ ((endless || ends_with (x ∷ t) s) && not (stands (x ∷ t) (but_last s)))
unfolding behind_first stands but_last
over true x t [] = refl
over false x t [] = sym (rw (ends-none t x))
over endless x t (b ∷ s) = rw (stands-but_last t s x b, starts-but_last t s x b) (go (starts_with (x ∷ t) (b ∷ s)) (is_nil (drop (length t) s)) refl refl (over endless x t s))
  where
    go : (p q : Bool) → starts_with (x ∷ t) (b ∷ s) ≡ p → is_nil (drop (length t) s) ≡ q
        → is_over endless (behind_first (x ∷ t) s) ≡ ((endless || ends_with (x ∷ t) s) && not (stands (x ∷ t) (but_last s)))
        → is_over endless (cond p (some (drop (length t) s)) (behind_first (x ∷ t) s)) ≡ ((endless || ends_with (x ∷ t) (b ∷ s)) && not ((p && not q) || stands (x ∷ t) (but_last s)))
    go true true e f r =
        let short : length s ≤ length t = nil-drop (length t) s f in
        let whole : length (x ∷ t) ≡ length (b ∷ s) = omega (arith, starts-long (x ∷ t) (b ∷ s) e) in
        f ∙ sym (rw (stands-short (x ∷ t) (but_last s) (omega (arith, but_last-length s)), ends-whole (x ∷ t) (b ∷ s) whole ∙ e, or-true endless))
    go true false e f r = f ∙ sym (and-false (endless || ends_with (x ∷ t) (b ∷ s)))
    go false q e f r = r ∙ sym (rw (ends-later (x ∷ t) s b e))

-- a comment of a line is its opening, with no line feed before its end
line-formed : (opening s : List ℕ) → formed opening line_feed true s ≡ (starts_with opening s && only_last (length opening) line_feed s)
unfolding formed
line-formed opening s = rw (over true 10 [] (drop (length opening) s))

-- what test 8 asks of a multi-line comment: the two ends, which share no byte
block-ends : (s : List ℕ) → not (misformed_block s) ≡ (starts_with (ascii "/*") s && ends_with (ascii "*/") (drop 2 s))
unfolding starts_with
block-ends [] = refl
block-ends (a ∷ []) = sym (rw (and-false (eqb 47 a)))
block-ends (a ∷ b ∷ s) = go (dec_lt (length s) 2)
  where
    both : (p q : Bool) → not (not p || not q) ≡ (p && q)
    both true true = refl
    both true false = refl
    both false q = refl

    go : Dec (length s < 2) → not (misformed_block (a ∷ b ∷ s)) ≡ (starts_with (ascii "/*") (a ∷ b ∷ s) && ends_with (ascii "*/") s)
    go (yes h) = rw (lt-ltb (length (a ∷ b ∷ s)) 4 (omega arith), lt-leb 2 (length s) h) (sym (and-false (starts_with (ascii "/*") (a ∷ b ∷ s))))
    go (no h) =
        let e : length (a ∷ b ∷ s) - 2 ≡ suc (suc (length s - 2)) = omega arith in
        rw (le-ltb (length (a ∷ b ∷ s)) 4 (omega arith), le-leb 2 (length (a ∷ b ∷ s)) (omega arith), le-leb 2 (length s) (omega arith), e) (both (starts_with (ascii "/*") (a ∷ b ∷ s)) (starts_with (ascii "*/") (drop (length s - 2) s)))

-- a multi-line comment of the form is one that test 8 accepts, with no `*/` before its last two bytes
block-formed : (s : List ℕ) → formed (ascii "/*") (ascii "*/") false s ≡ (not (misformed_block s) && only_last 2 (ascii "*/") s)
unfolding formed
block-formed s = rw (over false 42 (47 ∷ []) (drop 2 s), block-ends s) (sym (and_assoc (starts_with (ascii "/*") s) (ends_with (ascii "*/") (drop 2 s)) (only_last 2 (ascii "*/") s)))

-- THE LAWS

-- A token has the form of its comment exactly where test 8 accepts it and its end stands nowhere before its end. So the tokens of these kinds that are accepted and are no
-- forms are those that go on behind a line feed or behind a `*/`.
pub forms_exactly : (e : Element) → is_form e.kind e.text ≡ (not (misformed e) && ends_once e.kind e.text)
unfolding is_form ends_once
forms_exactly e = go (ℕ_discrete e.kind 68) (ℕ_discrete e.kind 69) (ℕ_discrete e.kind 65)
  where
    go : Dec (e.kind ≡ 68) → Dec (e.kind ≡ 69) → Dec (e.kind ≡ 65) → is_form e.kind e.text ≡ (not (misformed e) && ends_once e.kind e.text)
    go (yes h) l m = rw (← misformed-hash e e.kind e.text refl refl _ h refl, h, line-formed (ascii "#") e.text) (simp (or-false, not-not))
    go (no h) (yes l) m = rw (← misformed-slash e e.kind e.text refl refl _ l refl, l, line-formed (ascii "//") e.text) (simp (or-false, not-not))
    go (no h) (no l) (yes m) = rw (← misformed-multi e e.kind e.text refl refl _ m refl, m) (block-formed e.text)
    go (no h) (no l) (no m) = rw (ne_eqb e.kind 68 h, ne_eqb e.kind 69 l, ne_eqb e.kind 65 m) (sym (and-false (not (misformed e))))

-- Test 8 refuses no comment of the specification.
pub forms_pass : (e : Element) → is_form e.kind e.text ≡ true → misformed e ≡ false
forms_pass e h = not-true (misformed e) (and_true (not (misformed e)) _ (sym (forms_exactly e) ∙ h)).0

-- a token of this kind and text
abbrev pub token : ℕ → List ℕ → Element
token k s = record { number = 1; kind = k; level = 1; size = length s; text = s }

-- `# k` with its newline, of example L, and `/**/`, of A, are forms; `#a`, LF, `b` and `/* a */ b */` are accepted and are none; `/*/` is neither.
pub forms_told : (is_form 68 (ascii "# k\n") ≡ true) × (is_form 65 (ascii "/**/") ≡ true)
    × (misformed (token 68 (ascii "#a\nb")) ≡ false) × (is_form 68 (ascii "#a\nb") ≡ false)
    × (misformed (token 65 (ascii "/* a */ b */")) ≡ false) × (is_form 65 (ascii "/* a */ b */") ≡ false)
    × (misformed (token 65 (ascii "/*/")) ≡ true) × (is_form 65 (ascii "/*/") ≡ false)
unfolding is_form formed behind_first starts_with misformed
forms_told = (refl, refl, refl, refl, refl, refl, refl, refl)
