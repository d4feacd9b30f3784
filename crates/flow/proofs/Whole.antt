-- Words that are read to the end: they tell of the jobs that they encode
use Rattle.std.proofs.Common.{◌≡◌, ℕ, ◌+◌, ◌^◌, ◌<◌, Bool, true, false, cond, not, ltb, List, [], ◌∷◌, ◌++◌, map, length, get_or, MatchBool, fold, filter, sym, refl, ap, ◌∙◌, subst, ⊎_elim, arith}
use Rattle.std.specs.List.{AllByRecursion as All}
use Rattle.std.proofs.ByRecursion.{All-from_get_or}
use Rattle.std.proofs.lemmas.List.{append_assoc, append-nil}
use Rattle.std.proofs.lemmas.Bool.{cases_lt, lt-ltb, le-ltb, cond-true, cond-false}
use Rattle.book.specs.declared.shape.Book.{Book}
use Rattle.book.specs.Jobs.{encode, held}
use Rattle.book.specs.View.{held_by, memory_of}
use Rattle.book.proofs.Voids.{decide}
use Rattle.flow.specs.declared.tally.Tally.{Tally}
use Rattle.flow.specs.Bits.{bit}
use Rattle.flow.specs.Flow.{Jobs, looping, reduced}
use Rattle.flow.specs.Reading.{Noted, Took, Part, whole, without, Tallies}
use Rattle.flow.proofs.Bits.{bit_none}
use Rattle.flow.proofs.Tallying.{event_in, end_in, tallies_event, tallies_end}

-- the jobs with one word more, and the jobs of words
abbrev pub word_in : ℕ → Part → ℕ → Part
word_in left r w = cond (ltb w 32) (cond (bit left w) r (event_in r w)) (end_in r)

abbrev pub part_of : ℕ → List ℕ → Part
part_of left ws = fold (word_in left) (whole []) ws

-- a word that is taken
module _ (left : ℕ) (r : Part) (old : Tally) (was : Tallies r old) (w : ℕ) (new : Tally) (took : Took left old w new) where
  kept_or_left : (b : Bool) → MatchBool b (new ≡ old) (Noted old w new) → Tallies (cond b r (event_in r w)) new
  kept_or_left true same = subst (Tallies r) (sym same) was
  kept_or_left false n = tallies_event r old was w new n

  pub tallies_word : Tallies (word_in left r w) new
  tallies_word =
      ⊎_elim
      (λ l. rw (lt-ltb w 32 l) (kept_or_left (bit left w) (took.event l)))
      (λ l. rw (le-ltb w 32 l) (tallies_end r old was new (took.head l)))
      (cases_lt w 32)

abbrev Steps : List ℕ → Type 0
Steps job = All (λ s. s < 32) job

module _ (left : ℕ) where
  abbrev kept : List ℕ → List ℕ
  kept = filter (λ s. not (bit left s))

  abbrev heard : Part → List ℕ → Part
  heard r xs = record { past = r.past; present = r.present ++ xs }

  -- one event
  hear : (x : ℕ) (xs : List ℕ) (r : Part) (b : Bool) → heard (cond b r (event_in r x)) xs ≡ heard r (cond (not b) (x ∷ xs) xs)
  hear x xs r true = refl
  hear x xs r false = ap (λ l. record { past = r.past; present = l }) (append_assoc r.present (x ∷ []) xs)

  -- the events of one job
  read_events : (job : List ℕ) → Steps job → (r : Part) (ws : List ℕ) → fold (word_in left) r (job ++ ws) ≡ fold (word_in left) (heard r (kept job)) ws
  read_events [] h r ws = ap (λ l. fold (word_in left) (record { past = r.past; present = l }) ws) (sym (append-nil r.present))
  read_events (x ∷ xs) h r ws =
      ap (λ q. fold (word_in left) q (xs ++ ws)) (cond-true _ _ _ (lt-ltb x 32 h.0))
      ∙ read_events xs h.1 (cond (bit left x) r (event_in r x)) ws
      ∙ ap (λ q. fold (word_in left) q ws) (hear x (kept xs) r (bit left x))

  -- all jobs
  read_jobs : (js : Jobs) → All Steps js → (r : Part) → end_in (fold (word_in left) r (encode js)) ≡ record { past = (r.past ++ r.present ∷ []) ++ without left js; present = [] }
  read_jobs [] h r = ap (λ l. record { past = l; present = [] }) (sym (append-nil (r.past ++ r.present ∷ [])))
  read_jobs (j ∷ js) h r =
      ap (λ q. end_in (fold (word_in left) q (j ++ encode js))) (cond-false _ _ _ (le-ltb (2 ^ 30 + length j) 32 (omega arith)))
      ∙ ap end_in (read_events j h.0 (end_in r) (encode js))
      ∙ read_jobs js h.1 (heard (end_in r) (kept j))
      ∙ ap (λ l. record { past = l; present = [] }) (append_assoc (r.past ++ r.present ∷ []) (kept j ∷ []) (without left js))

-- the jobs of a book are of steps below 32
book_steps : (b : Book) → All Steps (held_by b)
book_steps b =
    ⊎_elim
    (λ o. All-from_get_or Steps (held_by b) [] (λ i l. All-from_get_or (λ s. s < 32) (get_or (held_by b) i []) 0 (λ k m. let s = b.stepped i k l m in omega (arith, o.1))))
    (λ v. subst (λ n. All Steps (held n (memory_of b))) (sym (b.idle v)) tt)
    (decide b.steps (length (memory_of b)))

-- what the words of a book tell at their end
pub tallies_whole : (b : Book) (left : ℕ) (ws : List ℕ) (t : Tally) → ws ≡ encode (held_by b) → Tallies (end_in (part_of left ws)) t → Tallies (whole (without left (held_by b))) t
tallies_whole b left ws t is h =
    let g = subst (λ r. Tallies r t) (ap (λ l. end_in (part_of left l)) is ∙ read_jobs left (held_by b) (book_steps b) (whole [])) h in
    record { seen_is = g.seen_is; looping_is = g.looping_is; first_is = g.first_is; last_is = g.last_is; followed_is = g.followed_is; returns_is = g.returns_is; latest_is = g.latest_is; earlier_is = g.earlier_is }

-- nothing is left out
pub without_none : (js : Jobs) → without 0 js ≡ js
without_none [] = refl
without_none (j ∷ js) = ap (λ l. l ∷ without 0 js) (all j) ∙ ap (λ l. j ∷ l) (without_none js)
  where
    all : (xs : List ℕ) → filter (λ s. not (bit 0 s)) xs ≡ xs
    all [] = refl
    all (x ∷ xs) = cond-true _ _ _ (ap not (bit_none x)) ∙ ap (λ l. x ∷ l) (all xs)

-- the looping steps are left out
pub without_looping : (js : Jobs) (left : ℕ) → ((s : ℕ) → bit left s ≡ looping js s) → without left js ≡ reduced js
without_looping js left h = ap (λ (t : ℕ → Bool). map (filter (λ s. not (t s))) js) (λ i s. h s i)
