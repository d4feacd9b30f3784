use Rattle.std.proofs.Common.{◌≡◌, ℕ, suc, ◌+◌, ◌-◌, ◌^◌, ◌<◌, ◌≤◌, Bool, true, false, cond, ltb, ◌⊎◌, List, [], ◌∷◌, ◌++◌, length, get_or, take, drop, set, sym, refl, ap, ◌∙◌, subst, inl, inr, ⊎_elim, append_assoc, arith, length-append}
use lib.Seq.{paste, take-paste, take-length}
use Rattle.std.proofs.lemmas.List.{take-set-le, get_or_append_left, get_or_at, length_push, length-set, append-nil, get_or-drop, get_or-take, take_more_set, drop-set-lt, drop_all, drop_more, drop-drop, drop_at, length-drop, length-take-le, ext_get_or}
use Rattle.std.proofs.lemmas.Bool.{lt-ltb, le-ltb, cond-true, cond-false, cases_lt}
use Rattle.book.specs.declared.shape.Book.{Book}
use Rattle.book.specs.Jobs.{encoded, encode, loose, jobs, held, Opens, OfSteps, EachSized, EachStepped, Apart, Laid}

-- what a book's ghost fields say, by their names
abbrev pub Facts : ℕ → ℕ → List ℕ → Type 0
Facts steps used ws = record {
  within : used ≤ length ws;
  idle : (Opens steps (length ws) → ⊥) → used ≡ 0;
  laid : Opens steps (length ws) → Laid steps used ws;
  sized : EachSized (held used ws);
  stepped : EachStepped steps (held used ws);
  apart : Apart (held used ws);
}

abbrev Small : List ℕ → Type 0
Small j = (k : ℕ) → k < length j → get_or j k 0 < 2 ^ 30

small_tail : (x : ℕ) (xs : List ℕ) → Small (x ∷ xs) → Small xs
small_tail x xs s k h = s (suc k) (omega arith)

loose_small : (j : List ℕ) → Small j → loose j ≡ j
loose_small [] s = refl
loose_small (x ∷ xs) s = cond-true _ _ _ (lt-ltb x (2 ^ 30) (s 0 (omega arith))) ∙ ap (λ (r : List ℕ). x ∷ r) (loose_small xs (small_tail x xs s))

jobs_small : (j : List ℕ) → Small j → jobs j ≡ []
jobs_small [] s = refl
jobs_small (x ∷ xs) s = cond-true _ _ _ (lt-ltb x (2 ^ 30) (s 0 (omega arith))) ∙ jobs_small xs (small_tail x xs s)

loose_head : (ws j : List ℕ) → loose (ws ++ encoded j) ≡ loose ws
loose_head [] j = cond-false _ _ _ (le-ltb (2 ^ 30 + length j) (2 ^ 30) (omega arith))
loose_head (w ∷ ws) j = ap (λ (r : List ℕ). cond (ltb w (2 ^ 30)) (w ∷ r) []) (loose_head ws j)

pub jobs_push : (ws j : List ℕ) → Small j → jobs (ws ++ encoded j) ≡ jobs ws ++ j ∷ []
jobs_push [] j s =
    cond-false _ _ _ (le-ltb (2 ^ 30 + length j) (2 ^ 30) (omega arith))
    ∙ ap (λ (r : List ℕ). r ∷ jobs j) (loose_small j s) ∙ ap (λ (r : List (List ℕ)). j ∷ r) (jobs_small j s)
jobs_push (w ∷ ws) j s =
    ap (λ (r : List ℕ). cond (ltb w (2 ^ 30)) (jobs (ws ++ encoded j)) (r ∷ jobs (ws ++ encoded j))) (loose_head ws j)
    ∙ ap (λ (r : List (List ℕ)). cond (ltb w (2 ^ 30)) r (loose ws ∷ r)) (jobs_push ws j s)
    ∙ cond_push (ltb w (2 ^ 30)) (jobs ws) (loose ws) (j ∷ [])
  where
    cond_push : (b : Bool) (xs : List (List ℕ)) (x : List ℕ) (ys : List (List ℕ)) → cond b (xs ++ ys) (x ∷ (xs ++ ys)) ≡ cond b xs (x ∷ xs) ++ ys
    cond_push true xs x ys = refl
    cond_push false xs x ys = refl

pub encode_push : (js : List (List ℕ)) (j : List ℕ) → encode (js ++ j ∷ []) ≡ encode js ++ encoded j
encode_push [] j = append-nil (encoded j)
encode_push (i ∷ js) j = ap (λ (r : List ℕ). encoded i ++ r) (encode_push js j) ∙ sym (append_assoc (encoded i) (encode js) (encoded j))

-- a book just opened, and a void one
pub void : (steps : ℕ) (ws : List ℕ) → (Opens steps (length ws) → ⊥) → Facts steps 0 ws
void steps ws nay = record { within = omega arith; idle = λ _. refl; laid = λ o. absurd (nay o); sized = λ i h. absurd (nought i h); stepped = λ i k h _. absurd (nought i h); apart = λ i j _ h _. nought j h }
  where
    nought : (i : ℕ) → i < 0 → ⊥
    nought i h = omega arith

pub fresh : (steps : ℕ) (ws : List ℕ) → Opens steps (length ws) → Facts steps 1 (set ws 0 (2 ^ 31 + steps))
fresh steps [] o = absurd (none o.2)
  where
    none : 2 ≤ 0 → ⊥
    none h = omega arith
fresh steps (w ∷ ws) o = record { within = omega arith; idle = λ nay. absurd (nay o); laid = λ _. refl; sized = λ i h. absurd (nought i h); stepped = λ i k h _. absurd (nought i h); apart = λ i j _ h _. nought j h }
  where
    nought : (i : ℕ) → i < 0 → ⊥
    nought i h = omega arith

-- a write past what is used
pub kept : (steps used : ℕ) (ws : List ℕ) (i a : ℕ) → used ≤ i → Facts steps used ws → Facts steps used (set ws i a)
kept steps used ws i a h f =
    let P : ℕ → List ℕ → Type 0 = λ len front. record { within : used ≤ len; idle : (Opens steps len → ⊥) → used ≡ 0; laid : Opens steps len → front ≡ (2 ^ 31 + steps) ∷ encode (jobs (drop 1 front)); sized : EachSized (jobs (drop 1 front)); stepped : EachStepped steps (jobs (drop 1 front)); apart : Apart (jobs (drop 1 front)) } in
    subst (λ (n : ℕ). P n (take used (set ws i a))) (sym (length-set ws i a)) (subst (P (length ws)) (sym (take-set-le used ws i a h)) f)

-- one job more
module _ (js : List (List ℕ)) (job : List ℕ) where
  place : (i : ℕ) → i < length (js ++ job ∷ []) → (i < length js) ⊎ (i ≡ length js)
  place i h = ⊎_elim inl (λ g. inr (omega (arith, length_push js job))) (cases_lt i (length js))

  at_old : (i : ℕ) → i < length js → get_or (js ++ job ∷ []) i [] ≡ get_or js i []
  at_old i h = get_or_append_left js (job ∷ []) [] i h

  at_new : (i : ℕ) → i ≡ length js → get_or (js ++ job ∷ []) i [] ≡ job
  at_new i e = get_or_at js job [] [] i (sym e)

  -- what holds of each job, and of the new one, holds of each job after
  each_push : (P : List ℕ → Type 0) → ((i : ℕ) → i < length js → P (get_or js i [])) → P job → (i : ℕ) → i < length (js ++ job ∷ []) → P (get_or (js ++ job ∷ []) i [])
  each_push P old new i h = ⊎_elim (λ g. subst P (sym (at_old i g)) (old i g)) (λ e. subst P (sym (at_new i e)) new) (place i h)

  pub sized_push : EachSized js → 1 ≤ length job → length job ≤ 1000 → EachSized (js ++ job ∷ [])
  sized_push s lo hi = each_push (λ j. (1 ≤ length j) × (length j ≤ 1000)) s (lo, hi)

  pub stepped_push : (steps : ℕ) → EachStepped steps js → OfSteps steps job → EachStepped steps (js ++ job ∷ [])
  stepped_push steps s o i k h = each_push (OfSteps steps) (λ n g m. s n m g) o i h k

  pub apart_push : Apart js → ((i : ℕ) → i < length js → get_or js i [] ≡ job → ⊥) → Apart (js ++ job ∷ [])
  apart_push a nay i j lt h e =
      ⊎_elim (λ g. a i j lt g (sym (at_old i (omega arith)) ∙ e ∙ at_old j g))
      (λ d. nay i (omega arith) (sym (at_old i (omega arith)) ∙ e ∙ at_new j d)) (place j h)

module _ (steps used : ℕ) (ws : List ℕ) (job : List ℕ) (o : Opens steps (length ws)) (f : Facts steps used ws) (of : OfSteps steps job) where
  small : (k : ℕ) → k < length job → get_or job k 0 < 2 ^ 30
  small k h = omega (arith, of k h, o.1)

  module _ (front : List ℕ) (e : front ≡ take used ws ++ encoded job) where
    front_jobs : jobs (drop 1 front) ≡ held used ws ++ job ∷ []
    front_jobs =
        let l = f.laid o in
        let g : drop 1 front ≡ drop 1 (take used ws) ++ encoded job = ap (λ (x : List ℕ). drop 1 x) (e ∙ ap (λ (x : List ℕ). x ++ encoded job) l) ∙ ap (λ (x : List ℕ). drop 1 x ++ encoded job) (sym l) in
        ap jobs g ∙ jobs_push (drop 1 (take used ws)) job small

    front_laid : front ≡ (2 ^ 31 + steps) ∷ encode (jobs (drop 1 front))
    front_laid =
        let l = f.laid o in
        e ∙ ap (λ (x : List ℕ). x ++ encoded job) l ∙ ap (λ (x : List ℕ). (2 ^ 31 + steps) ∷ x) (sym (encode_push (held used ws) job) ∙ ap encode (sym front_jobs))

  -- a book after a new job's words
  pub appended : (ws' : List ℕ) (used' : ℕ) → length ws' ≡ length ws → used' ≤ length ws → take used' ws' ≡ take used ws ++ encoded job
      → 1 ≤ length job → length job ≤ 1000 → ((i : ℕ) → i < length (held used ws) → get_or (held used ws) i [] ≡ job → ⊥) → Facts steps used' ws'
  appended ws' used' len within e lo hi new =
      let js = held used ws in
      let h : js ++ job ∷ [] ≡ held used' ws' = sym (front_jobs (take used' ws') e) in
      record {
        within = omega arith;
        idle = λ nay. absurd (nay (subst (Opens steps) (sym len) o));
        laid = λ _. front_laid (take used' ws') e;
        sized = subst EachSized h (sized_push js job f.sized lo hi);
        stepped = subst (EachStepped steps) h (stepped_push js job steps f.stepped of);
        apart = subst Apart h (apart_push js job f.apart new);
      }

  pub appended_held : (ws' : List ℕ) (used' : ℕ) → take used' ws' ≡ take used ws ++ encoded job → held used' ws' ≡ held used ws ++ job ∷ []
  appended_held ws' used' e = front_jobs (take used' ws') e

-- a head word, and then the events after it
pub paste_head : (ws : List ℕ) (i h : ℕ) (job : List ℕ) (n : ℕ) → i < length ws → paste (set ws i h) (i + 1) job n ≡ paste ws i (h ∷ job) (suc n)
paste_head ws i h job n lt =
    let k : i + 1 + n ≡ i + suc n = omega arith in
    let lt' : i < i + suc n = omega arith in
    ap (λ (x : List ℕ). x ++ take n job ++ drop (i + 1 + n) (set ws i h)) (take_more_set ws i h lt)
    ∙ ap (λ (x : List ℕ). x ++ drop (i + 1 + n) (set ws i h)) (append_assoc (take i ws) (h ∷ []) (take n job))
    ∙ ap (λ (m : ℕ). take i ws ++ (h ∷ take n job) ++ drop m (set ws i h)) k
    ∙ ap (λ (x : List ℕ). take i ws ++ (h ∷ take n job) ++ x) (drop-set-lt (i + suc n) ws i h lt')

pub took : (ws : List ℕ) (i : ℕ) (s : List ℕ) (n : ℕ) → n ≡ i + length s → i ≤ length ws → take n (paste ws i s (length s)) ≡ take i ws ++ s
took ws i s n e h = ap (λ (m : ℕ). take m (paste ws i s (length s))) e ∙ take-paste ws i s (length s) h (omega arith) ∙ ap (λ (x : List ℕ). take i ws ++ x) (take-length s)

pub facts : (b : Book) → Facts b.steps b.used b.words.now
facts b = record { within = b.within; idle = b.idle; laid = b.laid; sized = b.sized; stepped = b.stepped; apart = b.apart }

-- a turn of the search: from word i of the front on lie the jobs from n on
module _ (front : List ℕ) (js : List (List ℕ)) (i n : ℕ) (e : drop i front ≡ encode (drop n js)) (lt : i < length front) where
  pub more : n < length js
  more = ⊎_elim (λ h. h) (λ h. absurd (none (ap length (e ∙ ap encode (drop_all n js h))))) (cases_lt n (length js))
    where
      none : length (drop i front) ≡ 0 → ⊥
      none z = omega (arith, length-drop i front)

  pub split : drop i front ≡ encoded (get_or js n []) ++ encode (drop (n + 1) js)
  split = e ∙ ap encode (drop_more js n [] more)

  pub head_is : get_or front i 0 ≡ 2 ^ 30 + length (get_or js n [])
  head_is = ap (λ (m : ℕ). get_or front m 0) (omega arith) ∙ sym (get_or-drop i front 0 0) ∙ ap (λ (x : List ℕ). get_or x 0 0) split

  pub fits : i + 1 + length (get_or js n []) ≤ length front
  fits = omega (arith, length-drop i front, ap length split, length-append (encoded (get_or js n [])) (encode (drop (n + 1) js)))

  pub event_is : (k : ℕ) → k < length (get_or js n []) → get_or front (i + 1 + k) 0 ≡ get_or (get_or js n []) k 0
  event_is k h = ap (λ (m : ℕ). get_or front m 0) (omega arith) ∙ sym (get_or-drop i front (suc k) 0) ∙ ap (λ (x : List ℕ). get_or x (suc k) 0) split ∙ get_or_append_left (get_or js n []) (encode (drop (n + 1) js)) 0 k h

  pub next : drop (i + 1 + length (get_or js n [])) front ≡ encode (drop (n + 1) js)
  next = ap (λ (m : ℕ). drop m front) (omega arith) ∙ sym (drop-drop (length (encoded (get_or js n []))) i front) ∙ ap (drop (length (encoded (get_or js n [])))) split ∙ drop_at (encoded (get_or js n [])) (encode (drop (n + 1) js)) _ refl

-- past the last job
pub ended : (front : List ℕ) (js : List (List ℕ)) (i n : ℕ) → drop i front ≡ encode (drop n js) → length front ≤ i → length js ≤ n
ended front js i n e h = ⊎_elim (λ g. absurd (some g)) (λ g. g) (cases_lt n (length js))
  where
    some : n < length js → ⊥
    some g = omega (arith, length-drop i front, ap length (e ∙ ap encode (drop_more js n [] g)), length-append (encoded (get_or js n [])) (encode (drop (n + 1) js)))

-- the same, over a book's words
module _ (ws : List ℕ) (used i n : ℕ) (within : used ≤ length ws) (e : drop i (take used ws) ≡ encode (drop n (held used ws))) (lt : i < used) where
  long : length (take used ws) ≡ used
  long = length-take-le used ws within

  in_front : i < length (take used ws)
  in_front = omega (arith, long)

  pub t_more : n < length (held used ws)
  t_more = more (take used ws) (held used ws) i n e in_front

  pub t_head : get_or ws i 0 ≡ 2 ^ 30 + length (get_or (held used ws) n [])
  t_head = sym (get_or-take used ws i 0 lt) ∙ head_is (take used ws) (held used ws) i n e in_front

  pub t_room : i + 1 + length (get_or (held used ws) n []) ≤ used
  t_room = omega (arith, long, fits (take used ws) (held used ws) i n e in_front)

  pub t_event : (k : ℕ) → k < length (get_or (held used ws) n []) → get_or ws (i + 1 + k) 0 ≡ get_or (get_or (held used ws) n []) k 0
  t_event k h = sym (get_or-take used ws (i + 1 + k) 0 (omega (arith, t_room))) ∙ event_is (take used ws) (held used ws) i n e in_front k h

  pub t_next : drop (i + (1 + (get_or ws i 0 - 2 ^ 30))) (take used ws) ≡ encode (drop (n + 1) (held used ws))
  t_next = ap (λ (m : ℕ). drop m (take used ws)) (omega (arith, t_head)) ∙ next (take used ws) (held used ws) i n e in_front

  -- the words after a head are the job's events
  pub t_job : take (i + 1 + (get_or ws i 0 - 2 ^ 30) - (i + 1)) (drop (i + 1) ws) ≡ get_or (held used ws) n []
  t_job =
      let m : i + 1 + (get_or ws i 0 - 2 ^ 30) - (i + 1) ≡ length (get_or (held used ws) n []) = omega (arith, t_head) in
      let room : length (get_or (held used ws) n []) ≤ length (drop (i + 1) ws) = omega (arith, length-drop (i + 1) ws, t_room, within) in
      ap (λ k. take k (drop (i + 1) ws)) m
      ∙ ext_get_or 0 _ (get_or (held used ws) n []) (length-take-le (length (get_or (held used ws) n [])) (drop (i + 1) ws) room)
      (λ k h. let inside : k < length (get_or (held used ws) n []) = omega (arith, length-take-le (length (get_or (held used ws) n [])) (drop (i + 1) ws) room) in
      get_or-take (length (get_or (held used ws) n [])) (drop (i + 1) ws) k 0 inside ∙ get_or-drop (i + 1) ws k 0 ∙ t_event k inside)

-- how many words an open book has used
pub used_is : (b : Book) → Opens b.steps (length b.words.now) → b.used ≡ 1 + length (encode (held b.used b.words.now))
used_is b o = omega (arith, length-take-le b.used b.words.now b.within, ap length (b.laid o))
