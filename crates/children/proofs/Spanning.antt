-- The loop of `gap`: the gap so far.
use mathlib.Core.Path.{◌≡◌, refl, ap, ◌∙◌, sym}
use mathlib.Core.Bool.{Bool, true, false, cond, not, false≢true}
use mathlib.Core.List.{List, [], ◌∷◌, ◌++◌, append-nil}
use Prim.Native.Nat.{ℕ, ◌+◌, ◌<◌, ◌≤◌, ◌^◌}
use native.Mathlib.Omega.{arith}
use Rattle.tree.specs.declared.class.Kinds.{Kinds}
use Rattle.tree.specs.Class.{is, one_of}
use Rattle.tree.specs.Tree.{Part}
use Rattle.children.specs.Reading.{is_note}
use Rattle.children.specs.Gaps.{Turn, turn, trivia_turn, other_turn, breaks, widen, gaps, turned, started_after, had_after, follows, adds_inline, adds_waiting, ending, space_in}
use Rattle.tree.specs.Index.{Table, Region, parts_from, part_at, kind_at, end_at}
use Rattle.children.specs.declared.gap.End.{End}
use Rattle.children.specs.declared.gap.Span.{Span}
use Rattle.children.specs.declared.turn.Go.{Go}
use Rattle.std.specs.declared.ops.ControlFlow.TheVariants.{Continue, Break}
use Rattle.children.specs.declared.tally.Tally.{Tally}
use Rattle.children.specs.Stretch.{Jumps, here, inline_in, waiting_in}
use Rattle.children.specs.Tally.{nothing, counted}
use Rattle.children.specs.Spans.{Spans, Lies, spanned}
use Rattle.tree.proofs.Siblings.{parts_next, parts-over}
use Rattle.tree.specs.declared.class.Class.TheVariants as Class
use Rattle.children.specs.Gaps as G
use Rattle.children.proofs.Stretch.{jumps-le, jumps-next}
use Rattle.children.proofs.Tallies.{not_error}
use Rattle.children.proofs.Growing.{inline-none, waiting_none, inline-more, waiting-follow, waiting-more, Tallied, tallied-none, tallied-few, tallied-fits, tallied-stays, tallied-goes}
use Rattle.children.proofs.Widening.{widen_none, widen-both}

-- ---- what a turn says of the element

abbrev pub is_trivia : Go → Bool
is_trivia Go.Inline = true
is_trivia Go.Last = true
is_trivia Go.Wait = true
is_trivia Go.Error = false
is_trivia Go.Skip = false
is_trivia Go.Over = false

abbrev pub is_error : Go → Bool
is_error Go.Inline = false
is_error Go.Last = false
is_error Go.Wait = false
is_error Go.Error = true
is_error Go.Skip = false
is_error Go.Over = false

pub record Says (g : Go) (s : Bool) (x : Part) : Type 0 where
  pub trivia : is Class.Trivia x ≡ is_trivia g
  pub error : is Class.CustomError x ≡ is_error g
  pub fresh : follows g true ≡ true → s ≡ false

abbrev pub Saying : Turn → Bool → Part → Type 0
Saying (Continue g) s x = Says g s x
Saying (Break e) s x = Unit {0}

said-trivia : (s : Bool) (x : Part) → is Class.Trivia x ≡ true → Saying (trivia_turn s x) s x
unfolding trivia_turn
said-trivia true x e = record { trivia = e; error = not_error x e; fresh = λ h. absurd (false≢true h) }
said-trivia false x e = go (breaks x) (is Class.SingleLine x)
  where
    go : (b l : Bool) → Saying (cond b (Continue Go.Wait) (cond l (Continue Go.Last) (Continue Go.Inline))) false x
    go true l = record { trivia = e; error = not_error x e; fresh = λ h. absurd (false≢true h) }
    go false true = record { trivia = e; error = not_error x e; fresh = λ h. refl }
    go false false = record { trivia = e; error = not_error x e; fresh = λ h. refl }

said-other : (l h s : Bool) (x : Part) → is Class.Trivia x ≡ false → is Class.CustomError x ≡ false → Saying (other_turn l h x.kind) s x
unfolding other_turn
said-other true true s x e f = tt
said-other true false s x e f = record { trivia = e; error = f; fresh = λ h. absurd (false≢true h) }
said-other false h s x e f = go (is Class.Separator x)
  where
    go : (b : Bool) → Saying (cond b (Continue Go.Skip) (Break End.Foreign)) s x
    go true = record { trivia = e; error = f; fresh = λ h. absurd (false≢true h) }
    go false = tt

pub said : (w : Kinds) (l s h : Bool) (x : Part) → Saying (turn w l s h x) s x
unfolding turn
said w l s h x = go (one_of w x.kind) (is Class.Trivia x) refl (is Class.CustomError x) refl
  where
    go : (a b : Bool) → is Class.Trivia x ≡ b → (d : Bool) → is Class.CustomError x ≡ d → Saying (cond a (Break End.Child) (cond b (trivia_turn s x) (cond d (Continue Go.Error) (other_turn l h x.kind)))) s x
    go true b e d f = tt
    go false true e d f = said-trivia s x e
    go false false e true f = record { trivia = e; error = f; fresh = λ h. absurd (false≢true h) }
    go false false e false f = said-other l h s x e f

gaps-next : {index image : List ℕ} {n : ℕ} (t : Table image index n) (w : Kinds) (l s h : Bool) (j b : ℕ) → b ≤ n → j < b
    → gaps w l s h (parts_from image index j b) ≡ turned (turn w l s h (part_at image index j)) (part_at image index j) s h (λ s h. gaps w l s h (parts_from image index (end_at index j) b))
unfolding gaps
gaps-next {index} {image} t w l s h j b k g = rw (parts_next t j b k g)

-- ---- the loop of `gap`

-- The gap so far: what is read from j on, with what was met in front, is what is read from `from` on.
pub record Spanning (index image : List ℕ) (w : Kinds) (loose after : Bool) (from b cut j : ℕ) (started had : Bool) (t : Tally) : Type 0 where
  pub region : Region image index j b
  pub first : Jumps index region.n from cut
  pub second : Jumps index region.n cut j
  pub follows : started ≡ false → cut ≡ j
  pub tally : Tallied index image from cut j t
  pub rest : gaps w loose (not after) after (parts_from image index from b) ≡ widen (inline_in image index from cut) (waiting_in image index from cut j) (gaps w loose started had (parts_from image index j b))

pub spanning_none : (index image : List ℕ) (w : Kinds) (l a : Bool) (from b : ℕ) (t : Tally) → Region image index from b → t ≡ nothing → Spanning index image w l a from b from from (not a) a t
spanning_none index image w l a from b t r e =
    rw e (record { region = r; first = here; second = here; follows = λ q. refl; tally = tallied-none index image from; rest = rw (inline-none, waiting_none, widen_none) })

laid : {index image : List ℕ} {w : Kinds} {l a : Bool} {from b cut j : ℕ} {s h e : Bool} {t : Tally} {d : End} → Spanning index image w l a from b cut j s h t → Lies image index (record { from = from; cut = cut; to = j; had = e; end = d; tally = t })
laid K = record {
  first = record { n = K.region.n; table = K.region.table; upto = omega (arith, K.region.begins, jumps-le K.region.table K.second); jumps = K.first };
  second = record { n = K.region.n; table = K.region.table; upto = K.region.begins; jumps = K.second };
  tells = K.tally.tells;
  few = tallied-few K.region.table K.tally K.region.begins;
}

module _ {index image : List ℕ} {w : Kinds} {l a : Bool} {from b cut j : ℕ} {s h : Bool} {t : Tally} (K : Spanning index image w l a from b cut j s h t) (lt : j < b) where
  abbrev tab : Table image index K.region.n
  tab = K.region.table

  abbrev x : Part
  x = part_at image index j

  in-n : j < K.region.n
  in-n = omega (arith, K.region.ends)

  step-rest : (g : Go) → turn w l s h x ≡ Continue g → gaps w l (not a) a (parts_from image index from b)
      ≡ widen (inline_in image index from cut ++ adds_inline g x) (waiting_in image index from cut j ++ adds_waiting g x) (gaps w l (started_after g s) (had_after g h) (parts_from image index (end_at index j) b))
  step-rest g q = K.rest ∙ ap (widen (inline_in image index from cut) (waiting_in image index from cut j)) (rw q at (gaps-next tab w l s h j b K.region.ends lt)) ∙ widen-both _ _ _ _ _

  abbrev next-region : Region image index (end_at index j) b
  next-region = record { n = K.region.n; table = tab; begins = tab.inside j in-n; ends = K.region.ends }

  -- the cut stays where it is
  stays : (g : Go) → turn w l s h x ≡ Continue g → adds_inline g x ≡ [] → cond (is_note x) (x ∷ []) [] ≡ adds_waiting g x → (started_after g s ≡ false → ⊥)
      → Spanning index image w l a from b cut (end_at index j) (started_after g s) (had_after g h) (counted false (kind_at index j) (space_in x) t)
  stays g q u v f = record {
    region = next-region;
    first = K.first;
    second = jumps-next tab K.second in-n;
    follows = λ e. absurd (f e);
    tally = tallied-stays tab K.tally in-n K.second;
    rest = rw (waiting-more tab from j in-n cut K.second, v) (rw (u, append-nil (inline_in image index from cut)) at (step-rest g q));
  }

  -- the cut goes on with the element
  goes : (g : Go) → turn w l s h x ≡ Continue g → s ≡ false → cond (is Class.Trivia x) (x ∷ []) [] ≡ adds_inline g x → cond (is Class.CustomError x) (x ∷ []) [] ≡ adds_waiting g x
      → Spanning index image w l a from b (end_at index j) (end_at index j) (started_after g s) (had_after g h) (counted true (kind_at index j) (space_in x) t)
  goes g q z u v =
      let e : cut ≡ j = K.follows z in
      let p : Jumps index K.region.n from j = rw e at K.first in
      record {
        region = next-region;
        first = jumps-next tab p in-n;
        second = here;
        follows = λ e. refl;
        tally = tallied-goes tab (rw e at K.tally) in-n p;
        rest = rw (inline-more tab from j in-n p, waiting-follow tab from j in-n p, u, v) (rw e at (step-rest g q));
      }

  abbrev Stepped : Go → Type 0
  Stepped g = Spanning index image w l a from b (cond (follows g s) (end_at index j) cut) (end_at index j) (started_after g s) (had_after g h) (counted (follows g s) (kind_at index j) (space_in x) t)

  step : (g : Go) → turn w l s h x ≡ Continue g → Says g s x → (v : Bool) → s ≡ v → Stepped g
  step Go.Inline q y v e = goes Go.Inline q (y.fresh refl) (rw y.trivia) (rw y.error)
  step Go.Last q y v e = goes Go.Last q (y.fresh refl) (rw y.trivia) (rw y.error)
  step Go.Wait q y v e = stays Go.Wait q refl (rw y.trivia) (λ z. false≢true (sym z))
  step Go.Error q y true e = rw e (rw e at (stays Go.Error q refl (rw (y.trivia, y.error)) (λ z. false≢true (sym z ∙ e))))
  step Go.Error q y false e = rw e (rw e at (goes Go.Error q e (rw y.trivia) (rw y.error)))
  step Go.Skip q y true e = rw e (rw e at (stays Go.Skip q refl (rw (y.trivia, y.error)) (λ z. false≢true (sym z ∙ e))))
  step Go.Skip q y false e = rw e (rw e at (goes Go.Skip q e (rw y.trivia) (rw y.error)))
  step Go.Over q y v e = stays Go.Over q refl (rw (y.trivia, y.error)) (λ z. false≢true (sym z))

  stepped : (g : Go) → turn w l s h x ≡ Continue g → Stepped g
  stepped g e = step g e (rw e at (said w l s h x)) s refl

  -- the tally fits
  pub spanning-fits : (f : ℕ) → f ≡ space_in x → t.before + t.back + f + 2 < 2 ^ 64
  spanning-fits = tallied-fits tab K.tally in-n

  pub spanning-more : (T : Turn) (g : Go) (next cut' k m : ℕ) (f s' h' : Bool) (t' : Tally) → m ≡ space_in x → T ≡ turn w l s h x → T ≡ Continue g → next ≡ end_at index j → f ≡ follows g s → cut' ≡ cond f next cut → h' ≡ had_after g h → s' ≡ started_after g s
      → k ≡ kind_at index j → t' ≡ counted f k m t → Spanning index image w l a from b cut' next s' h' t'
  spanning-more T g next cut' k m f s' h' t' i d e n p q u v o z = rw (z, o, i, q, p, n, u, v) (stepped g (sym d ∙ e))

  -- an element ends it
  ended : (e : End) → turn w l s h x ≡ Break e
      → spanned image index w l b (record { from = from; cut = cut; to = j; had = h; end = e; tally = t }) ≡ widen (inline_in image index from cut) (waiting_in image index from cut j) (gaps w l s h (parts_from image index j b))
  unfolding spanned widen
  ended End.Child q = rw (gaps-next tab w l s h j b K.region.ends lt, q, append-nil (inline_in image index from cut), append-nil (waiting_in image index from cut j))
  ended End.Last q = rw (gaps-next tab w l s h j b K.region.ends lt, q, append-nil (inline_in image index from cut), append-nil (waiting_in image index from cut j))
  ended End.Foreign q = rw (gaps-next tab w l s h j b K.region.ends lt, q, append-nil (inline_in image index from cut), append-nil (waiting_in image index from cut j))

  pub spanning-stop : (T : Turn) (e : End) (r : Span) → T ≡ turn w l s h x → T ≡ Break e → r ≡ record { from = from; cut = cut; to = j; had = h; end = e; tally = t } → Spans image index w l a from b r
  spanning-stop T e r d q z = rw z (record {
    begins = refl;
    lies = laid K;
    onward = K.region;
    inside = λ q. lt;
    read = K.rest ∙ sym (ended e (sym d ∙ q));
  })

gaps-none : (w : Kinds) (l s h : Bool) (index image : List ℕ) (j b : ℕ) → b ≤ j → gaps w l s h (parts_from image index j b) ≡ ending (G.gap_of [] [] h)
unfolding gaps
gaps-none w l s h index image j b k = rw (parts-over index image j b k)

over : (index image : List ℕ) (w : Kinds) (l : Bool) (from b cut j : ℕ) (s h : Bool) (t : Tally) → b ≤ j
    → spanned image index w l b (record { from = from; cut = cut; to = j; had = h; end = End.Last; tally = t }) ≡ widen (inline_in image index from cut) (waiting_in image index from cut j) (gaps w l s h (parts_from image index j b))
unfolding spanned widen
over index image w l from b cut j s h t k = rw (gaps-none w l s h index image j b k, append-nil (inline_in image index from cut), append-nil (waiting_in image index from cut j))

pub spanning_all : {index image : List ℕ} {w : Kinds} {l a : Bool} {from b cut j : ℕ} {s h : Bool} {t : Tally} (r : Span) → Spanning index image w l a from b cut j s h t → b ≤ j
    → r ≡ record { from = from; cut = cut; to = j; had = h; end = End.Last; tally = t } → Spans image index w l a from b r
spanning_all {index} {image} {w} {l} {a} {from} {b} {cut} {j} {s} {h} {t} r K k z = rw z (record {
  begins = refl;
  lies = laid K;
  onward = K.region;
  inside = λ q. let z : ◌≡◌ {A = ℕ} 0 1 = cc in absurd (omega arith);
  read = K.rest ∙ sym (over index image w l from b cut j s h t k);
})
