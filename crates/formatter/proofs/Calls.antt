-- The answer of each way through the code, from what its callees give.
use mathlib.Core.Path.{◌≡◌, refl, sym, ap, ◌∙◌}
use mathlib.Core.Bool.{Bool, true, false, cond, not, ◌&&◌, false≢true}
use mathlib.Core.Option.{Option, none, some}
use mathlib.Core.List.{List}
use Prim.Native.Nat.{ℕ, ◌+◌, ◌*◌, ◌/◌, ◌<◌, ◌≤◌, ◌^◌}
use native.Mathlib.Omega.{arith}
use native.Mathlib.Nat.{zero-add}
use lib.Dec.{leb, ltb}
use lib.ListN.{length, drop, length-append}
use borrow.Author.Tests.{lt-ltb, le-ltb, ltb-false, leb-true, not-true}
use Rattle.text.proofs.Lists.{and_true}
use Rattle.numbers.specs.declared.mode.Mode.{Mode}
use Rattle.items.specs.Item.{Item, in_mode}
use Rattle.items.specs.Role.{is_mark, marks_of}
use Rattle.items.specs.Lines.{record_lines}
use Rattle.items.specs.Records.{words, bytes, counts_of, overlaid, decoded, record_size}
use Rattle.items.specs.declared.Size.{Size}
use Rattle.items.specs.Machine.{all_fit, sized, Puts, no_size}
use Rattle.items.proofs.Decoding.{decoded_is, words-length}
use Rattle.items.proofs.Fits.{Fits, fits-start, store-overlaid}
use Rattle.numbers.specs.Refusal.{number_of}
use Rattle.numbers.specs.declared.refusal.Reason.{Reason}
use Rattle.numbers.specs.declared.refusal.Refusal as numbers
use Rattle.numbers.specs.declared.refusal.Reason.TheVariants.{RecordsTooShort, TextsTooShort, ListingTooShort}
use Rattle.tree.specs.Tree.{count_n, count_b, tree_of}
use Rattle.tree.specs.Refusal.{Refusal, refusal}
use Rattle.tree.specs.Answer as tree
use Rattle.numbers.specs.declared.refusal.Refusal as numbers
use Rattle.tree.specs.declared.Accepted as tested
use Rattle.tree.proofs.Passing.{accepted}
use Rattle.listing.specs.Listing.{head_line, listing}
use Rattle.listing.specs.Writes.{page, Writes}
use Rattle.listing.specs.Listable.{Listable, items_in}
use Rattle.listing.proofs.Listable.{items_are, listable}
use Rattle.items.specs.declared.Count.{Count}
use Rattle.plan.specs.declared.Plan.{Plan}
use Rattle.formatter.specs.Answer.{Verdict, turned_away, printed, from_printing, from_tests, verdict, with_room, with_listing, ruling, Answer, refused, done, answer_of, answer, buffer_of, records_after, texts_after, listing_after}
use Rattle.formatter.specs.Answered.{Answered, ReadBack}
use Rattle.std.specs.declared.option.Option as std
use Rattle.std.specs.declared.option.Option.TheVariants.{Some, None}
use Rattle.std.specs.declared.result.Result.{Result}
use Rattle.std.specs.declared.result.Result.TheVariants.{Ok, Err}
use Rattle.std.specs.Prelude.{IsErrAnd}
use Rattle.formatter.specs.Reply.{ListAnswer, reply, reply_listed, reply_to}
use Rattle.formatter.specs.declared.serve.Wanted.{Wanted}
use Rattle.formatter.specs.declared.serve.Buffers.{Buffers}
use Rattle.formatter.specs.Calls.{asked, Served, Serves, Attempted, most_records, Ready, planned_at, Whole, Halts, counts_with, ample, shortage}
use Rattle.formatter.proofs.Counted.{records-bound, texts-bound}
use Rattle.formatter.proofs.Fitted.{one-mark, sum_le, items-fit}
use Rattle.formatter.proofs.Agree.{agree}
use Rattle.formatter.proofs.Answering.{same_ok, answered, read_back}

-- ---- what the tests say

module _ (m : Mode) (image rs ts ls : List ℕ) where
  -- an image that is turned away: the buffers come back as they are
  turned : (listed : Bool) (n e : ℕ) → ruling m image rs ts (asked listed ls) ≡ turned_away n e → Served m image rs ts ls listed rs ts ls (refused n e)
  unfolding answer answer_of records_after texts_after listing_after buffer_of
  turned true n e h = record { answers = rw h; records = rw h; texts = rw h; listing = rw h }
  turned false n e h = record { answers = rw h; records = rw h; texts = rw h; listing = refl }

  -- no buffer matters to the tests 1 to 10
  away : (listed : Bool) (n e : ℕ) → verdict m image ≡ turned_away n e → Served m image rs ts ls listed rs ts ls (refused n e)
  unfolding ruling with_room with_listing
  away true n e h = turned true n e (rw h)
  away false n e h = turned false n e (rw h)

  -- the tests 1 to 9
  pub refused-by : (listed : Bool) {t u : Result tested.Accepted numbers.Refusal} {f : Refusal} → t ≡ u → tree.said u ≡ tree.refused f → tree.said t ≡ tree.answer image → Served m image rs ts ls listed rs ts ls (refused f.number f.element)
  unfolding tree.answer verdict from_tests
  refused-by listed {t} {u} {f} i j h = go (refusal image) refl (sym j ∙ ap tree.said (sym i) ∙ h)
    where
      go : (o : Option Refusal) → refusal image ≡ o → tree.refused f ≡ tree.answered (count_n image) (count_b image) o → Served m image rs ts ls listed rs ts ls (refused f.number f.element)
      go none q k = absurd (let z : ◌≡◌ {A = ℕ} 0 1 = cc in omega arith)
      go (some g) q k = let i : f ≡ g = cc in away listed f.number f.element (rw (q, ← i))

  -- the test 10
  pub stops : (listed : Bool) {e : ℕ} → Halts m image e → Served m image rs ts ls listed rs ts ls (refused 10 e)
  unfolding verdict from_tests from_printing
  stops listed h = away listed 10 _ (rw (h.passed, h.stops))

-- ---- room

-- what a lack of room leaves of items
abbrev left : List Item → Result (Unit {0}) Reason → Verdict
left xs (Ok x) = printed xs
left xs (Err r) = turned_away (number_of r) 0

module _ (m : Mode) (image rs ts ls : List ℕ) (xs : List Item) (v : verdict m image ≡ printed xs) where
  abbrev short : Bool → Result (Unit {0}) Reason
  short listed = shortage (counts_of xs) (length (listing xs)) (length rs) (length ts) (length ls) listed

  -- the tests 11 to 13 say what the shortage is
  rules : (listed : Bool) → ruling m image rs ts (asked listed ls) ≡ left xs (short listed)
  unfolding ruling with_room with_listing shortage
  rules true = rw v (go (ltb (length rs) (record_size * length xs)) (ltb (length ts) (length (bytes xs))))
    where
      last : (d : Bool) → cond d (turned_away 13 0) (printed xs) ≡ left xs (cond d (Err ListingTooShort) (Ok (tt {0})))
      last true = refl
      last false = refl

      go : (a b : Bool) → with_listing (some ls) (cond a (turned_away 11 0) (cond b (turned_away 12 0) (printed xs)))
          ≡ left xs (cond a (Err RecordsTooShort) (cond b (Err TextsTooShort) (cond (ltb (length ls) (length (listing xs))) (Err ListingTooShort) (Ok (tt {0})))))
      go true b = refl
      go false true = refl
      go false false = last (ltb (length ls) (length (listing xs)))
  rules false = rw v (go (ltb (length rs) (record_size * length xs)) (ltb (length ts) (length (bytes xs))))
    where
      go : (a b : Bool) → cond a (turned_away 11 0) (cond b (turned_away 12 0) (printed xs)) ≡ left xs (cond a (Err RecordsTooShort) (cond b (Err TextsTooShort) (Ok (tt {0}))))
      go true b = refl
      go false true = refl
      go false false = refl

  -- where buffers have room for records and texts and no listing is asked for, the items are printed
  rules-room : record_size * length xs ≤ length rs → length (bytes xs) ≤ length ts → ruling m image rs ts none ≡ printed xs
  unfolding ruling with_room with_listing
  rules-room h k = rw (v, le-ltb (length rs) (record_size * length xs) h, le-ltb (length ts) (length (bytes xs)) k) refl

  -- where there is none, the buffers have room
  roomy : (listed : Bool) → short listed ≡ (Ok (tt {0})) → (record_size * length xs ≤ length rs) × (length (bytes xs) ≤ length ts) × (listed ≡ true → length (listing xs) ≤ length ls)
  unfolding shortage
  roomy listed h = go (ltb (length rs) (record_size * length xs)) refl (ltb (length ts) (length (bytes xs))) refl listed (ltb (length ls) (length (listing xs))) refl h
    where
      never : {A : Type 0} {r : Reason} → Err r ≡ (Ok (tt {0})) → A
      never k = absurd (let z : ◌≡◌ {A = ℕ} 0 1 = cc in omega arith)

      go : (a : Bool) → ltb (length rs) (record_size * length xs) ≡ a → (b : Bool) → ltb (length ts) (length (bytes xs)) ≡ b → (l d : Bool) → ltb (length ls) (length (listing xs)) ≡ d
          → cond a (Err RecordsTooShort) (cond b (Err TextsTooShort) (cond (l && d) (Err ListingTooShort) (Ok (tt {0})))) ≡ (Ok (tt {0}))
          → (record_size * length xs ≤ length rs) × (length (bytes xs) ≤ length ts) × (l ≡ true → length (listing xs) ≤ length ls)
      go true e b f l d g k = never k
      go false e true f l d g k = never k
      go false e false f true true g k = never k
      go false e false f true false g k = (ltb-false _ _ e, ltb-false _ _ f, λ _. ltb-false _ _ g)
      go false e false f false d g k = (ltb-false _ _ e, ltb-false _ _ f, λ z. absurd (false≢true z))

-- ---- which buffer is too short

module _ (c : Count) (n w r size : ℕ) (listed : Bool) where
  pub short-records : w < record_size * c.records → Err RecordsTooShort ≡ shortage c n w r size listed
  unfolding shortage
  short-records h = rw (lt-ltb w (record_size * c.records) h)

  module _ (h : record_size * c.records ≤ w) where
    pub short-texts : r < c.texts → Err TextsTooShort ≡ shortage c n w r size listed
    unfolding shortage
    short-texts k = rw (le-ltb w (record_size * c.records) h, lt-ltb r c.texts k)

    module _ (k : c.texts ≤ r) where
      pub short-listing : (listed && ltb size n) ≡ true → Err ListingTooShort ≡ shortage c n w r size listed
      unfolding shortage
      short-listing l = rw (le-ltb w (record_size * c.records) h, le-ltb r c.texts k, l)

      pub all_room : (listed && ltb size n) ≡ false → (Ok (tt {0})) ≡ shortage c n w r size listed
      unfolding shortage
      all_room l = rw (le-ltb w (record_size * c.records) h, le-ltb r c.texts k, l)

-- where no listing is asked for, its length is not looked at
unlisted : (c : Count) (m n w r size : ℕ) → shortage c m w r size false ≡ shortage c n w r size false
unfolding shortage
unlisted c m n w r size = refl

-- ---- sizes of arrays

-- no image prints more
pub most-small : (image : List ℕ) → refusal image ≡ none → most_records image ≤ 226304
most-small image p = let a = accepted image p in omega (arith, a.few-elements, a.few_bytes)

-- half as many words as there are operations, six for each element or more, and three more are room for the index
pub ready_by : {image : List ℕ} {m size n : ℕ} → refusal image ≡ none → m ≡ count_n image → 6 * m ≤ size → size / 2 + 3 ≡ n → Ready image n
ready_by p e h i = record { passed = p; tabled = omega (arith, h, e, i) }

-- six operations for each element of the largest image are so many
pub few-sized : (image : List ℕ) → refusal image ≡ none → 6 * count_n image ≤ 24576
few-sized image p = omega (arith, (accepted image p).few-elements)

-- buffers that are ample
pub ample_by : (image : List ℕ) {m : ℕ} (w r : ℕ) → m ≡ most_records image → (leb (record_size * m) w && leb (39 * m) r) ≡ ample image w r
unfolding ample
ample_by image w r e = rw e refl

-- what is answered and written, where the buffers are the ones that were lent
pub lent-still : {w : Wanted} {image : List ℕ} {b b' : Buffers} {r : ListAnswer} → b'.records.ghost_name ≡ b.records.ghost_name → b'.texts.ghost_name ≡ b.texts.ghost_name → b'.listing.ghost_name ≡ b.listing.ghost_name
    → Served w.mode image b.records.now b.texts.now b.listing.now w.listed b'.records.now b'.texts.now b'.listing.now (reply_to w.listed r) → Serves w image b b' r
lent-still i j k h = record { served = h; lent = record { records = i; texts = j; listing = k } }

-- ---- attempts

module _ {w : Wanted} {image : List ℕ} {b b' : Buffers} where
  -- an answer
  pub answered-by : {room : Type 0} {r : ListAnswer} → Serves w image b b' r → Attempted room w image b b' (Some r)
  answered-by {r = r} h = record {
    answers = λ s e. let i : r ≡ s = cc in rw (← i) h;
    fills = λ e. absurd (let z : ◌≡◌ {A = ℕ} 0 1 = cc in omega arith);
  }

  -- the same with room that implies the other's
  pub attempted-as : {x y : Type 0} {r : std.Option ListAnswer} → (y → x) → Attempted x w image b b' r → Attempted y w image b b' r
  attempted-as f h = record { answers = h.answers; fills = λ e. let (n, k) = h.fills e in (λ x. n (f x), k) }

  -- a second attempt where the first was full
  pub after-full : {room : Type 0} {a : std.Option ListAnswer} → Attempted room w image b b' a → a ≡ None → {b'' : Buffers} {r : ListAnswer} → Serves w image b' b'' r → Serves w image b b'' r
  after-full h e k = rw (h.fills e).1 at k

-- ---- a plan

module _ {m : Mode} {image index ops : List ℕ} {q : Plan} (w : Whole m image index ops q) where
  abbrev ys : List Item
  ys = planned_at image index ops q

  -- a whole plan's items can be written
  whole-fits : Fits ys
  whole-fits = rw w.prints at (items-fit (accepted image w.passed) (in_mode m))

  whole-verdict : verdict m image ≡ printed ys
  unfolding verdict from_tests from_printing
  whole-verdict = rw (w.passed, w.prints)

  -- what is written from the start fits
  pub plan-fits : (l : Bool) → all_fit ys (no_size l) ≡ true
  plan-fits l = fits-start _ l whole-fits

  -- each run's list has two marks
  pairs : marks_of ys ≡ 2 * q.runs
  pairs = let (_, _, m) = same_ok ys q.runs (rw w.prints at (agree (tree_of image) (in_mode m) 0)) in rw w.runs m

  pub marks-fit : 2 * q.runs < 2 ^ 32
  marks-fit = rw (← pairs) (omega (arith, sum_le is_mark one-mark ys, whole-fits.records))

  -- the counts of what is written or counted from the start
  counted : (l : Bool) (p : Size) {c : Count} → p ≡ sized ys (no_size l) → c ≡ counts_with p q.runs → c ≡ counts_of ys
  counted l p e i = i ∙ rw (e, zero-add (length ys), zero-add (length (bytes ys)), pairs, w.runs) refl

  -- ---- room for all that an image may print

  few-records : length ys ≤ most_records image
  few-records = rw w.prints at (records-bound (accepted image w.passed) (in_mode m))

  few-texts : length (bytes ys) ≤ 39 * most_records image
  few-texts = omega (arith, few-records, rw w.prints at (texts-bound (accepted image w.passed) (in_mode m)))

-- ---- what both calls answer

-- a reason that is handed on names no element
handed-on : (t : ListAnswer) (r : Reason) (listed : Bool) → IsErrAnd t (λ f. f ≡ record { reason = r; element = record { 0 = 0 } }) → reply_to listed t ≡ refused (number_of r) 0
handed-on (Ok l) r listed h = absurd h
handed-on (Err f) r listed h = rw h refl

-- the call that prints hands on a refusal too
pub unlisted-refused : (t : Result Count numbers.Refusal) (f : numbers.Refusal) (a : ListAnswer) → a ≡ Err f → IsErrAnd t (λ g. g ≡ f) → reply t ≡ reply_to false a
unlisted-refused (Ok c) f a e h = absurd h
unlisted-refused (Err g) f a e h = rw (e, h) refl

-- the length of the listing of items, by their counts and the bytes of their lines
long : (xs : List Item) (c : Count) (m n : ℕ) → c ≡ counts_of xs → m ≡ length (record_lines 0 xs) → n ≡ length (head_line c) + m → n ≡ length (listing xs)
unfolding listing
long xs c m n e k l = rw (length-append (head_line (counts_of xs)) (record_lines 0 xs)) (rw (e, k) at l)

module _ {m : Mode} {image index ops : List ℕ} {q : Plan} (rs ts ls : List ℕ) (listed : Bool) (z : Size) {c : Count} {n : ℕ} {f : Result (Unit {0}) Reason} (w : Whole m image index ops q) (y : z ≡ sized (ys w) (no_size listed)) (e : c ≡ counts_with z q.runs) (l : n ≡ length (head_line c) + z.lines) (g : f ≡ shortage c n (length rs) (length ts) (length ls) listed) where
  all-counted : c ≡ counts_of (ys w)
  all-counted = counted w listed z y e

  -- where records are listed, n is the length of their listing
  line-counted : listed ≡ true → n ≡ length (listing (ys w))
  line-counted j = long (ys w) c z.lines n all-counted (ap Size.lines y ∙ rw (j, zero-add (length (record_lines 0 (ys w)))) refl) l

  lacks : f ≡ short m image rs ts ls (ys w) (whole-verdict w) listed
  lacks = g ∙ go listed refl
    where
      go : (b : Bool) → listed ≡ b → shortage c n (length rs) (length ts) (length ls) b ≡ short m image rs ts ls (ys w) (whole-verdict w) b
      go true j = rw (line-counted j, all-counted) refl
      go false j = rw all-counted (unlisted (counts_of (ys w)) n (length (listing (ys w))) (length rs) (length ts) (length ls))

  -- a buffer is too short
  pub lacking : {r : Reason} → f ≡ Err r → (t : ListAnswer) → IsErrAnd t (λ d. d ≡ record { reason = r; element = record { 0 = 0 } }) → Served m image rs ts ls listed rs ts ls (reply_to listed t)
  lacking i t h = rw (handed-on t _ listed h) (turned m image rs ts ls listed _ 0 (rules m image rs ts ls (ys w) (whole-verdict w) listed ∙ ap (left (ys w)) (sym lacks ∙ i)))

  module _ (i : f ≡ (Ok (tt {0}))) {rs' ts' : List ℕ} {d : Size} (x : Puts (ys w) rs ts (no_size false) rs' ts' d) where
    fitting : (record_size * length (ys w) ≤ length rs) × (length (bytes (ys w)) ≤ length ts) × (listed ≡ true → length (listing (ys w)) ≤ length ls)
    fitting = roomy m image rs ts ls (ys w) (whole-verdict w) listed (sym lacks ∙ i)

    ruled : ruling m image rs ts (asked listed ls) ≡ printed (ys w)
    ruled = rules m image rs ts ls (ys w) (whole-verdict w) listed ∙ ap (left (ys w)) (sym lacks ∙ i)

    laid-records : rs' ≡ overlaid (words 0 (ys w)) rs
    laid-records = x.records ∙ store-overlaid (words 0 (ys w)) rs (rw (words-length 0 (ys w)) fitting.0)

    laid-texts : ts' ≡ overlaid (bytes (ys w)) ts
    laid-texts = x.texts ∙ store-overlaid (bytes (ys w)) ts fitting.1

    decodes : decoded rs' ts' c.records ≡ some (ys w)
    decodes = rw (laid-records, laid-texts, all-counted) (decoded_is (ys w) (drop (length (words 0 (ys w))) rs) (drop (length (bytes (ys w))) ts))

    -- the records and texts are those of the items that are listed
    pub tells : Listable rs' ts' c
    tells = listable rs' ts' c (ys w) decodes all-counted (whole-fits w).lines

    -- no listing is asked for
    pub prints : listed ≡ false → Served m image rs ts ls listed rs' ts' ls (done c (cond listed (some n) none))
    unfolding answer answer_of records_after texts_after buffer_of
    prints j = record { answers = rw (j, rw j at ruled, all-counted); records = rw ruled laid-records; texts = rw ruled laid-texts; listing = rw j refl }

    -- one is
    pub lists : listed ≡ true → {ls' : List ℕ} {k : ℕ} → Writes (listing (items_in rs' ts' c.records)) (page ls 0) (page ls' k) → Served m image rs ts ls listed rs' ts' ls' (done c (cond listed (some n) none))
    unfolding answer answer_of records_after texts_after listing_after buffer_of
    lists j o = record {
      answers = rw (j, rw j at ruled, line-counted j, all-counted);
      records = rw ruled laid-records;
      texts = rw ruled laid-texts;
      listing = rw (j, rw j at ruled) (rw (items_are rs' ts' c.records (ys w) decodes) at o.stored ∙ store-overlaid (listing (ys w)) ls (fitting.2 j));
    }

-- where there is room for all that an image may print
module _ {m : Mode} {image index ops : List ℕ} {q : Plan} {rs ts : List ℕ} (ls : List ℕ) {b : Bool} (a : Bool) {rs' ts' : List ℕ} (d : Size) {c : Count} (w : Whole m image index ops q) (p : b ≡ ample image (length rs) (length ts)) (h : (not a && b) ≡ true) (x : Puts (ys w) rs ts (no_size false) rs' ts' d) (i : c ≡ counts_with d q.runs) where
  pub prints-ample : (n : ℕ) → Served m image rs ts ls a rs' ts' ls (done c (cond a (some n) none))
  unfolding answer answer_of records_after texts_after buffer_of ample
  prints-ample n =
      let (u, v) = and_true (not a) b h in
      let e : a ≡ false = not-true a u in
      let (f, g) = and_true (leb (record_size * most_records image) (length rs)) (leb (39 * most_records image) (length ts)) (sym p ∙ v) in
      let k : record_size * length (ys w) ≤ length rs = omega (arith, few-records w, leb-true (record_size * most_records image) (length rs) f) in
      let l : length (bytes (ys w)) ≤ length ts = omega (arith, few-texts w, leb-true (39 * most_records image) (length ts) g) in
      let r = rules-room m image rs ts ls (ys w) (whole-verdict w) k l in
      rw e (record {
        answers = rw (r, counted w false d x.size i) refl;
        records = rw r (x.records ∙ store-overlaid (words 0 (ys w)) rs (rw (words-length 0 (ys w)) k));
        texts = rw r (x.texts ∙ store-overlaid (bytes (ys w)) ts l);
        listing = refl;
      })

-- ---- the entries

module _ {m : Mode} {image rs ts ls rs' ts' ls' rs'' ts'' : List ℕ} {listed : Bool} {a b : Answer} (h : Served m image rs ts ls listed rs' ts' ls' a) (i : b ≡ a) (d : rs'' ≡ rs') (e : ts'' ≡ ts') where
  -- what holds of the buffers that come back with counts
  holds : (c : Count) (n : Option ℕ) → b ≡ done c n → Answered m image rs'' ts'' c
  holds c n k = rw (d, e, h.records, h.texts) (answered m image rs ts (asked listed ls) c n (sym h.answers ∙ sym i ∙ k))

  -- the clauses of the call that prints
  pub stated : listed ≡ false → (b ≡ answer m image rs ts none) × ((rs'' ≡ records_after m image rs ts none) × ((ts'' ≡ texts_after m image rs ts none) × ((c : Count) (n : Option ℕ) → b ≡ done c n → Answered m image rs'' ts'' c)))
  stated j = let k : asked listed ls ≡ none = rw j refl in (rw (← k) (i ∙ h.answers), (rw (← k) (d ∙ h.records), (rw (← k) (e ∙ h.texts), holds)))

  -- and of the one that lists
  pub stated-list : listed ≡ true → {ls'' : List ℕ} → ls'' ≡ ls'
      → (b ≡ answer m image rs ts (some ls)) × ((rs'' ≡ records_after m image rs ts (some ls)) × ((ts'' ≡ texts_after m image rs ts (some ls)) × ((ls'' ≡ listing_after m image rs ts ls) × ((c : Count) (n : Option ℕ) → b ≡ done c n → Answered m image rs'' ts'' c))))
  stated-list j f = let k : asked listed ls ≡ some ls = rw j refl in (rw (← k) (i ∙ h.answers), (rw (← k) (d ∙ h.records), (rw (← k) (e ∙ h.texts), (f ∙ h.listing ∙ rw j refl, holds))))

  -- what holds of them with a listing
  pub reads-back : listed ≡ true → {ls'' : List ℕ} → ls'' ≡ ls' → (c : Count) (n : ℕ) → b ≡ done c (some n) → ReadBack rs'' ts'' ls'' c n
  reads-back j f c n k =
      let l : asked listed ls ≡ some ls = rw j refl in
      let g : ls' ≡ listing_after m image rs ts ls = h.listing ∙ rw j refl in
      rw (d, e, f, h.records, h.texts, g, l) (read_back m image rs ts ls c n (rw l at (sym h.answers ∙ sym i ∙ k)))

-- the answer of the call that lists
pub listed-reply : (r : ListAnswer) → reply_listed r ≡ reply_to true r
listed-reply (Ok l) = refl
listed-reply (Err f) = refl
