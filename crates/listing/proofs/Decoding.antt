-- What the words of a record show of the item that they decode to.
use mathlib.Core.Path.{◌≡◌, refl}
use mathlib.Core.Bool.{Bool, true, false, cond, ◌&&◌}
use mathlib.Core.Option.{Option, none, some}
use mathlib.Core.List.{List}
use Prim.Native.Nat.{ℕ, ◌+◌}
use native.Mathlib.Omega.{arith}
use lib.Dec.{leb, eqb}
use lib.ListN.{length, take, drop, length-drop}
use lib.Seq.{length-take-le}
use borrow.Author.Tests.{leb-true, eqb-true}
use Rattle.text.specs.Basic.{within}
use Rattle.text.proofs.Lists.{and_true}
use Rattle.items.specs.Item.{always, lines, Item, text, newline, space_or_newline, tab, indent, outdent, mark, group, group_end, block, block_end, run, run_end, again, if_test, else_item, end_if}
use Rattle.items.specs.Records.{bare, with_operand, condition, stored, item_of}
use Rattle.items.specs.Lines.{described, kind_names}
use Rattle.items.specs.Names.{other_names, names_of, name_at}
use Rattle.listing.specs.Shown.{listed_text, shown, Readable}

-- A record shows item x.
pub record Shows (ts : List ℕ) (k a b : ℕ) (x : Item) : Type 0 where
  pub readable : Readable ts k a b
  pub shows : shown ts k a b ≡ described x

module _ (ts : List ℕ) (k a b : ℕ) (x : Item) where
  -- one kind after another
  choose : (j : ℕ) (p q : Option Item) → cond (eqb k j) p q ≡ some x → (p ≡ some x → Shows ts j a b x) → (q ≡ some x → Shows ts k a b x) → Shows ts k a b x
  choose j p q h f g = go (eqb k j) refl h
    where
      go : (t : Bool) → eqb k j ≡ t → cond t p q ≡ some x → Shows ts k a b x
      go true e r = rw (eqb-true k j e) (f r)
      go false e r = g r

  -- an item y of a kind that is no text, where a test of the operands holds
  only : (j : ℕ) (y : Item) (t : Bool) → within 2 17 j ≡ true → shown ts j a b ≡ described y → cond t (some y) none ≡ some x → Shows ts j a b x
  unfolding kind_names
  only j y true h e r =
      let i : y ≡ x = cc in
      let (l, u) = and_true (leb 2 j) (leb j 17) h in
      let l = leb-true 2 j l in
      let u = leb-true j 17 u in
      rw (← i) (record { readable = record { known = omega arith; inside = λ z. absurd (omega arith) }; shows = e })
  only j y false h e r = absurd (let z : ◌≡◌ {A = ℕ} 0 1 = cc in omega arith)

  lone : (j : ℕ) (y : Item) → within 2 17 j ≡ true → shown ts j a b ≡ described y → bare y a b ≡ some x → Shows ts j a b x
  lone j y h e r = only j y (eqb a 0 && eqb b 0) h e r

  counting : (j : ℕ) (f : ℕ → Item) → within 2 17 j ≡ true → shown ts j a b ≡ described (f a) → with_operand f a b ≡ some x → Shows ts j a b x
  counting j f h e r = only j (f a) (eqb b 0) h e r

  text-shows : stored ts a b ≡ some x → Shows ts 1 a b x
  unfolding shown listed_text kind_names other_names names_of name_at described
  text-shows h = go (leb (a + b) (length ts)) refl h
    where
      go : (t : Bool) → leb (a + b) (length ts) ≡ t → cond t (some (text (take b (drop a ts)))) none ≡ some x → Shows ts 1 a b x
      go true e r =
          let s = take b (drop a ts) in
          let i : text s ≡ x = cc in
          let l = leb-true (a + b) (length ts) e in
          let n : length s ≡ b = length-take-le b (drop a ts) (rw (length-drop a ts) (omega arith)) in
          rw (← i) (record { readable = record { known = omega arith; inside = λ z. l }; shows = rw n })
      go false e r = absurd (let z : ◌≡◌ {A = ℕ} 0 1 = cc in omega arith)

  if-shows : condition a b ≡ some x → Shows ts 15 a b x
  unfolding shown kind_names other_names names_of name_at described
  if-shows h = go (eqb a 0) (eqb a 1) refl refl h
    where
      go : (t u : Bool) → eqb a 0 ≡ t → eqb a 1 ≡ u → cond t (cond (eqb b 0) (some (if_test always)) none) (cond u (some (if_test (lines b))) none) ≡ some x → Shows ts 15 a b x
      go true u e f r = only 15 (if_test always) (eqb b 0) refl (rw (eqb-true a 0 e)) r
      go false u e f r = only 15 (if_test (lines b)) u refl (lined u f r) r
        where
          lined : (u : Bool) → eqb a 1 ≡ u → cond u (some (if_test (lines b))) none ≡ some x → shown ts 15 a b ≡ described (if_test (lines b))
          lined true f r = rw (eqb-true a 1 f)
          lined false f r = absurd (let z : ◌≡◌ {A = ℕ} 0 1 = cc in omega arith)

  -- a record shows the item that it decodes to
  pub item-shows : item_of ts k a b ≡ some x → Shows ts k a b x
  unfolding item_of shown kind_names other_names names_of name_at described
  item-shows h =
      choose 1 _ _ h text-shows λ h.
      choose 2 _ _ h (lone 2 newline refl refl) λ h.
      choose 3 _ _ h (lone 3 space_or_newline refl refl) λ h.
      choose 4 _ _ h (lone 4 tab refl refl) λ h.
      choose 5 _ _ h (lone 5 indent refl refl) λ h.
      choose 6 _ _ h (lone 6 outdent refl refl) λ h.
      choose 7 _ _ h (counting 7 mark refl refl) λ h.
      choose 8 _ _ h (lone 8 group refl refl) λ h.
      choose 9 _ _ h (lone 9 group_end refl refl) λ h.
      choose 10 _ _ h (lone 10 block refl refl) λ h.
      choose 11 _ _ h (lone 11 block_end refl refl) λ h.
      choose 12 _ _ h (counting 12 run refl refl) λ h.
      choose 13 _ _ h (counting 13 run_end refl refl) λ h.
      choose 14 _ _ h (counting 14 again refl refl) λ h.
      choose 15 _ _ h if-shows λ h.
      choose 16 _ _ h (lone 16 else_item refl refl) λ h.
      choose 17 _ _ h (lone 17 end_if refl refl) λ h.
      absurd (let z : ◌≡◌ {A = ℕ} 0 1 = cc in omega arith)
