-- What holds of an answer: the buffers that come back, their items put back, the counts, the bound; and that a listing can be read back.
use mathlib.Core.Path.{◌≡◌, refl, sym, ap, ◌∙◌}
use mathlib.Core.Bool.{Bool, true, false, cond}
use mathlib.Core.Option.{Option, none, some}
use mathlib.Core.List.{List}
use Prim.Native.Nat.{ℕ, ◌*◌}
use native.Mathlib.Omega.{arith}
use lib.Dec.{ltb}
use lib.ListN.{length, take, drop}
use lib.Seq.{take-append_seam, drop-append_seam}
use Rattle.numbers.specs.declared.mode.Mode.{Mode}
use Rattle.items.specs.Item.{Item, Out, stop, ok, in_mode}
use Rattle.items.specs.Role.{runs_of, marks_of}
use Rattle.items.specs.Records.{words, bytes, counts_of, overlaid, record_size}
use Rattle.items.proofs.Decoding.{decoded_is, words-length}
use Rattle.tree.specs.Tree.{tree_of}
use Rattle.tree.specs.Refusal.{Refusal, refusal}
use Rattle.tree.proofs.Passing.{Accepted, accepted}
use Rattle.listing.specs.Listing.{listing}
use Rattle.listing.specs.Unlisted.{unlisted}
use Rattle.listing.proofs.Unlisted.{unlisted_is}
use Rattle.printer.specs.Print.{source_file}
use Rattle.items.specs.declared.Count.{Count}
use Rattle.formatter.specs.PutBack.{put_back}
use Rattle.formatter.specs.Plain.{plain_file}
use Rattle.formatter.specs.Answered.{Answered, ReadBack}
use Rattle.formatter.proofs.Agree.{Same, gives, agree}
use Rattle.formatter.proofs.Counted.{records-bound}
use Rattle.formatter.specs.Answer.{Verdict, turned_away, printed, from_printing, from_tests, verdict, with_room, with_listing, ruling, refused, done, length_of, answer_of, answer, buffer_of, records_after, texts_after, listing_after}

-- ---- what leads to items

-- a test that turns the image away leaves no items
away : {A : Type 0} (n e : ℕ) (xs : List Item) → turned_away n e ≡ printed xs → A
away n e xs h = absurd (let z : ◌≡◌ {A = ℕ} 0 1 = cc in omega arith)

unless : (n e : ℕ) (b : Bool) {v : Verdict} {xs : List Item} → cond b (turned_away n e) v ≡ printed xs → v ≡ printed xs
unless n e true {xs} h = away n e xs h
unless n e false h = h

room-printed : (w r : ℕ) (v : Verdict) (xs : List Item) → with_room w r v ≡ printed xs → v ≡ printed xs
unfolding with_room
room-printed w r (turned_away n e) xs h = away n e xs h
room-printed w r (printed ys) xs h = unless 12 0 (ltb r (length (bytes ys))) (unless 11 0 (ltb w (record_size * length ys)) h)

listing-printed : (ls : Option (List ℕ)) (v : Verdict) (xs : List Item) → with_listing ls v ≡ printed xs → v ≡ printed xs
unfolding with_listing
listing-printed none v xs h = h
listing-printed (some ls) (turned_away n e) xs h = away n e xs h
listing-printed (some ls) (printed ys) xs h = unless 13 0 (ltb (length ls) (length (listing ys))) h

tests-printed : (o : Option Refusal) (v : Verdict) (xs : List Item) → from_tests o v ≡ printed xs → (o ≡ none) × (v ≡ printed xs)
unfolding from_tests
tests-printed none v xs h = (refl, h)
tests-printed (some r) v xs h = away r.number r.element xs h

printing-printed : (o : Out) (xs : List Item) → from_printing o ≡ printed xs → (k : ℕ) × (o ≡ ok xs k)
unfolding from_printing
printing-printed (stop ys e) xs h = away 10 e xs h
printing-printed (ok ys k) xs h = let e : ys ≡ xs = cc in (k, rw e)

pub same_ok : (xs : List Item) (n : ℕ) {o : Out} → Same 0 (ok xs n) o → (n ≡ runs_of xs) × (o ≡ ok (put_back xs) (runs_of xs)) × (marks_of xs ≡ 2 * runs_of xs)
same_ok xs n (gives p q m) = let e : n ≡ runs_of xs = omega (arith, q) in (e, rw (← p, e) refl, m)

-- a refusal leaves a buffer as it was
kept : (ls : Option (List ℕ)) (f : List Item → List ℕ) (buffer : List ℕ) (v : Verdict) (n e : ℕ) → answer_of ls v ≡ refused n e → buffer_of f v buffer ≡ buffer
unfolding answer_of buffer_of
kept ls f buffer (turned_away m d) n e h = refl
kept ls f buffer (printed xs) n e h = absurd (let z : ◌≡◌ {A = ℕ} 0 1 = cc in omega arith)

-- what is written leaves what is past it as it was
behind : (n : ℕ) (ws buffer : List ℕ) → length ws ≡ n → drop n (overlaid ws buffer) ≡ drop n buffer
behind n ws buffer e = rw (← e) (drop-append_seam ws (drop (length ws) buffer))

-- What holds where the tests leave the items xs in a mode.
pub record Passed (m : Mode) (image : List ℕ) (xs : List Item) : Type 0 where
  pub accepts : Accepted image
  pub prints : source_file (tree_of image) (in_mode m) 0 ≡ ok xs (runs_of xs)
  pub plain : plain_file (tree_of image) (in_mode m) 0 ≡ ok (put_back xs) (runs_of xs)
  pub pairs : marks_of xs ≡ 2 * runs_of xs

pub passed : (m : Mode) (image rs ts : List ℕ) (ls : Option (List ℕ)) (xs : List Item) → ruling m image rs ts ls ≡ printed xs → Passed m image xs
unfolding ruling verdict
passed m image rs ts ls xs h =
    let v = room-printed (length rs) (length ts) (verdict m image) xs (listing-printed ls (with_room (length rs) (length ts) (verdict m image)) xs h) in
    let (n, p) = tests-printed (refusal image) (from_printing (source_file (tree_of image) (in_mode m) 0)) xs v in
    let (k, o) = printing-printed (source_file (tree_of image) (in_mode m) 0) xs p in
    let (e, q, m) = same_ok xs k (rw o at (agree (tree_of image) (in_mode m) 0)) in
    record { accepts = accepted image n; prints = rw e at o; plain = q; pairs = m }

-- ---- answers

answer-printed : (ls : Option (List ℕ)) (v : Verdict) (c : Count) (n : Option ℕ) → answer_of ls v ≡ done c n → (xs : List Item) × (v ≡ printed xs) × (c ≡ counts_of xs) × (n ≡ length_of ls xs)
unfolding answer_of
answer-printed ls (turned_away m e) c n h = absurd (let z : ◌≡◌ {A = ℕ} 0 1 = cc in omega arith)
answer-printed ls (printed xs) c n h = (xs, refl, cc, cc)

-- what an answer with counts says of the buffers that come back
pub answered :
    (m : Mode) (image rs ts : List ℕ) (ls : Option (List ℕ)) (c : Count) (n : Option ℕ) → answer m image rs ts ls ≡ done c n
    → Answered m image (records_after m image rs ts ls) (texts_after m image rs ts ls) c
unfolding answer records_after texts_after buffer_of
answered m image rs ts ls c n h = let (xs, v, e, _) = answer-printed ls (ruling m image rs ts ls) c n h in go xs v e (passed m image rs ts ls xs v)
  where
    go : (xs : List Item) → ruling m image rs ts ls ≡ printed xs → c ≡ counts_of xs → Passed m image xs → Answered m image (records_after m image rs ts ls) (texts_after m image rs ts ls) c
    go xs v e p = record {
      items = xs;
      decodes = rw (e, v) (decoded_is xs (drop (length (words 0 xs)) rs) (drop (length (bytes xs)) ts));
      printing = rw e p.prints;
      counts = e;
      plain = rw e p.plain;
      marks = rw e p.pairs;
      bound = rw e (rw p.prints at (records-bound p.accepts (in_mode m)));
    }

-- what is written stands in front
front : (n : ℕ) (ws buffer : List ℕ) → length ws ≡ n → take n (overlaid ws buffer) ≡ ws
front n ws buffer e = rw (← e) (take-append_seam ws (drop (length ws) buffer))

-- what an answer with a listing says of the buffers that come back
pub read_back :
    (m : Mode) (image rs ts ls : List ℕ) (c : Count) (n : ℕ) → answer m image rs ts (some ls) ≡ done c (some n)
    → ReadBack (records_after m image rs ts (some ls)) (texts_after m image rs ts (some ls)) (listing_after m image rs ts ls) c n
unfolding answer records_after texts_after listing_after buffer_of
read_back m image rs ts ls c n h = let (xs, v, e, l) = answer-printed (some ls) (ruling m image rs ts (some ls)) c (some n) h in go xs v e cc
  where
    go : (xs : List Item) → ruling m image rs ts (some ls) ≡ printed xs → c ≡ counts_of xs → length (listing xs) ≡ n
        → ReadBack (records_after m image rs ts (some ls)) (texts_after m image rs ts (some ls)) (listing_after m image rs ts ls) c n
    go xs v e l =
        let u : unlisted (take n (overlaid (listing xs) ls)) ≡ xs = ap unlisted (front n (listing xs) ls l) ∙ unlisted_is xs in
        rw (v, e) (record {
          counts = ap counts_of (sym u);
          records = front (record_size * length xs) (words 0 xs) rs (words-length 0 xs) ∙ ap (words 0) (sym u);
          texts = front (length (bytes xs)) (bytes xs) ts refl ∙ ap bytes (sym u);
        })

-- 'Buffers are written only after all tests': a refusal leaves each as it was
pub untouched :
    (m : Mode) (image rs ts : List ℕ) (ls : Option (List ℕ)) (n e : ℕ) → answer m image rs ts ls ≡ refused n e
    → (records_after m image rs ts ls ≡ rs) × (texts_after m image rs ts ls ≡ ts)
unfolding answer records_after texts_after
untouched m image rs ts ls n e h = (kept ls (words 0) rs (ruling m image rs ts ls) n e h, kept ls bytes ts (ruling m image rs ts ls) n e h)

pub listing_untouched : (m : Mode) (image rs ts ls : List ℕ) (n e : ℕ) → answer m image rs ts (some ls) ≡ refused n e → listing_after m image rs ts ls ≡ ls
unfolding answer listing_after
listing_untouched m image rs ts ls n e h = kept (some ls) listing ls (ruling m image rs ts (some ls)) n e h

-- an answer with counts leaves what is past them as it was
pub beyond :
    (m : Mode) (image rs ts : List ℕ) (ls : Option (List ℕ)) (c : Count) (n : Option ℕ) → answer m image rs ts ls ≡ done c n
    → (drop (record_size * c.records) (records_after m image rs ts ls) ≡ drop (record_size * c.records) rs) × (drop c.texts (texts_after m image rs ts ls) ≡ drop c.texts ts)
unfolding answer records_after texts_after buffer_of
beyond m image rs ts ls c n h = let (xs, v, e, _) = answer-printed ls (ruling m image rs ts ls) c n h in go xs v e
  where
    go : (xs : List Item) → ruling m image rs ts ls ≡ printed xs → c ≡ counts_of xs
        → (drop (record_size * c.records) (records_after m image rs ts ls) ≡ drop (record_size * c.records) rs) × (drop c.texts (texts_after m image rs ts ls) ≡ drop c.texts ts)
    go xs v e = rw (v, e) (behind (record_size * length xs) (words 0 xs) rs (words-length 0 xs), behind (length (bytes xs)) (bytes xs) ts refl)

-- where a listing was asked for, the answer gives its length, and its buffer begins with it and goes on as it was
pub listed :
    (m : Mode) (image rs ts ls : List ℕ) (c : Count) (n : ℕ) → answer m image rs ts (some ls) ≡ done c (some n)
    → (xs : List Item) × (source_file (tree_of image) (in_mode m) 0 ≡ ok xs c.runs) × (n ≡ length (listing xs)) × (listing_after m image rs ts ls ≡ overlaid (listing xs) ls)
unfolding answer listing_after buffer_of
listed m image rs ts ls c n h = let (xs, v, e, l) = answer-printed (some ls) (ruling m image rs ts (some ls)) c (some n) h in go xs v e l
  where
    go : (xs : List Item) → ruling m image rs ts (some ls) ≡ printed xs → c ≡ counts_of xs → some n ≡ length_of (some ls) xs
        → (xs : List Item) × (source_file (tree_of image) (in_mode m) 0 ≡ ok xs c.runs) × (n ≡ length (listing xs)) × (listing_after m image rs ts ls ≡ overlaid (listing xs) ls)
    go xs v e l = (xs, rw e (passed m image rs ts (some ls) xs v).prints, cc, rw v)
