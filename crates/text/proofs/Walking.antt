-- The library's words for what a chain over a text gives, as the definitions say it.
use mathlib.Core.Path.{◌≡◌, refl, ap, ◌∙◌, sym}
use mathlib.Core.Bool.{Bool, true, false, cond, not, ◌&&◌}
use mathlib.Core.List.{List, [], ◌∷◌}
use Prim.Native.Nat.{ℕ, suc, ◌+◌, ◌-◌, ◌<◌, ◌≤◌}
use native.Mathlib.Omega.{arith}
use native.Mathlib.Nat.{add_comm}
use native.Mathlib.Numerals.{add-one}
use lib.Dec.{eqb, leb}
use lib.ListN.{length, take, drop, drop_of_length-le, length-drop}
use lib.Seq.{take_all}
use borrow.Author.Tests.{leb-true, leb-false}
use Rattle.std.proofs.lemmas.List.{take_rest}
use Rattle.std.proofs.lemmas.Bool.{false_from_ne_true}
use Rattle.std.specs.List as list
use Rattle.std.specs.List.{prefix_len, count_by, zip}
use Rattle.std.proofs.lemmas.List.Recursion.{is_count_by}
use Rattle.std.specs.Prelude.{Option}
use Rattle.std.specs.Fn.{CalledAt}
use Rattle.std.specs.Iterator.{Drains}
use Rattle.std.specs.declared.iter.TakeWhile.{TakeWhile}
use Rattle.std.specs.Iterator.Adapters.{take_while_source, take_while_done, take_while_callee, take_while_steps}
use Rattle.std.proofs.lemmas.Iterator.{YieldsList}
use Rattle.std.proofs.lemmas.Iterator.Consumers.{count_from_yields_List}
use Rattle.std.proofs.lemmas.Iterator.Search.{YieldsList-from_take_while}
use Rattle.std.proofs.lemmas.List.Folds.{length-prefix_len}
use denote.Param.Members.{Mut}
use denote.Ref.{Bor}
use Rattle.text.specs.Basic.{starts_with, count, first_or}
use Rattle.text.specs.Text.{is_pad, padding, lines, in_first, line_end, ends_with}

-- how many items there are in front of the first that fails
pub count_while : {S A B F : Type 0} {steps : S → Option A → S → Type 0} {v : A → B} {ys : List B} {f : F} (g : Mut F (Bor A × Unit {0}) Bool) (test : B → Bool) (s : TakeWhile S F) (r : ℕ)
    → (xs : List A) × Drains (take_while_steps steps g) s xs × (r ≡ length xs) → YieldsList steps v (take_while_source s) ys → take_while_callee s ≡ f → take_while_done s ≡ false
    → ((x : A) (b : Bool) (q : F) → CalledAt g f x b q → (q ≡ f) × (b ≡ test (v x))) → r ≡ prefix_len test ys
count_while {ys = ys} g test s r ran source closure done calls = count_from_yields_List s r ran (YieldsList-from_take_while g test source closure done calls) ∙ length-prefix_len test ys

-- COMMON PADDING

-- a byte of the common padding, if all before it are
abbrev pub common : ℕ × ℕ → Bool
common p = eqb p.0 p.1 && is_pad p.0

pub common-length : (a b : List ℕ) → prefix_len common (zip a b) ≡ length (padding a b)
unfolding padding
common-length [] b = refl
common-length (x ∷ a) [] = refl
common-length (x ∷ a) (y ∷ b) = go (eqb x y && is_pad x) (common-length a b)
  where
    go : (t : Bool) → prefix_len common (zip a b) ≡ length (padding a b) → cond t (1 + prefix_len common (zip a b)) 0 ≡ length (cond t (x ∷ padding a b) [])
    go true h = omega arith
    go false h = refl

-- BEGINNINGS AND ENDS

pub starts-is : (s t : List ℕ) → list.starts_with eqb s t ≡ starts_with t s
unfolding starts_with
starts-is s [] = refl
starts-is [] (y ∷ t) = refl
starts-is (x ∷ s) (y ∷ t) = ap (λ b. eqb y x && b) (starts-is s t)

pub ends-is : (s t : List ℕ) → (list.ends_with eqb s t ≡ true → length t ≤ length s) → list.ends_with eqb s t ≡ ends_with t s
ends-is s t h = go (leb (length t) (length s)) refl
  where
    go : (b : Bool) → leb (length t) (length s) ≡ b → list.ends_with eqb s t ≡ (b && starts_with t (drop (length s - length t) s))
    go true e =
        let l : length t ≤ length s = leb-true _ _ e in
        let k : take (length t) (drop (length s - length t) s) ≡ drop (length s - length t) s = take_all (length t) (drop (length s - length t) s) (rw length-drop (omega arith)) in
        rw k at (starts-is (drop (length s - length t) s) t)
    go false e = false_from_ne_true _ (λ m. omega (arith, h m, leb-false (length t) (length s) e))

-- LINES

-- a byte of a line
abbrev pub is_inside : ℕ → Bool
is_inside b = not (eqb b 10)

first_in_lem : (b : ℕ) (ls : List (List ℕ)) → length (first_or [] (in_first b ls)) ≡ suc (length (first_or [] ls))
first_in_lem b [] = refl
first_in_lem b (l ∷ ls) = refl

pub line-length : (s : List ℕ) → prefix_len is_inside s ≡ length (first_or [] (lines s))
unfolding lines
line-length [] = refl
line-length (b ∷ s) = go (eqb b 10) (line-length s)
  where
    go : (t : Bool) → prefix_len is_inside s ≡ length (first_or [] (lines s)) → cond (not t) (1 + prefix_len is_inside s) 0 ≡ length (first_or [] (cond t ([] ∷ lines s) (in_first b (lines s))))
    go true h = refl
    go false h = omega (arith, h, first_in_lem b (lines s))

pub line-from : (s rest : List ℕ) (at : ℕ) → rest ≡ take (length s - at) (drop at s) → at + prefix_len is_inside rest ≡ line_end s at
unfolding line_end
line-from s rest at e = rw (e, take_rest s at, line-length (drop at s))

pub line-past : (s : List ℕ) (at : ℕ) → length s < at → at ≡ line_end s at
unfolding line_end lines
line-past s at h = rw (drop_of_length-le s {i = at} (omega arith)) (omega arith)

pub line_feeds-is : (s : List ℕ) → count_by (λ b. eqb b 10) s ≡ count 10 s
unfolding count
line_feeds-is s = sym (is_count_by (count 10) (λ b. eqb b 10) refl (λ x xs. rw (← (add-one (count 10 xs)), add_comm 1 (count 10 xs))) s)
