-- What is left of words without their filler, and jobs written one after the other. Assumes nothing.
use Rattle.std.proofs.Common.{◌≡◌, ℕ, List, [], ◌∷◌, ◌++◌, map, length, sym, refl, ap, ◌∙◌, arith}
use mathlib.Core.List.{head-eq_of_cons-eq, tail-eq_of_cons-eq}
use Rattle.std.proofs.lemmas.List.{append_assoc, append-nil, map-append}
use Rattle.steps.specs.declared.codes.Code.{Code}
use Rattle.words.specs.declared.kinds.Word.{Word}
use Rattle.words.specs.declared.kinds.Word.TheVariants.{Event, Head, Stop, Filler}
use Rattle.words.specs.Words.{word_of, event_word, head_word, job_words, written, unless_filler, stripped}
use Rattle.words.proofs.Forms.{event_says}

unless_filler_append : (x : Word) (w : ℕ) (ws vs : List ℕ) → unless_filler x w (ws ++ vs) ≡ unless_filler x w ws ++ vs
unless_filler_append (Event c) w ws vs = refl
unless_filler_append (Head n) w ws vs = refl
unless_filler_append (Stop n) w ws vs = refl
unless_filler_append Filler w ws vs = refl

pub stripped_append : (ws vs : List ℕ) → stripped (ws ++ vs) ≡ stripped ws ++ stripped vs
stripped_append [] vs = refl
stripped_append (w ∷ ws) vs = ap (unless_filler (word_of w) w) (stripped_append ws vs) ∙ unless_filler_append (word_of w) w (stripped ws) (stripped vs)

-- one word more, which says x
pub stripped_push : (p : List ℕ) (w : ℕ) (x : Word) → word_of w ≡ x → stripped (p ++ w ∷ []) ≡ stripped p ++ unless_filler x w []
stripped_push p w x e = stripped_append p (w ∷ []) ∙ ap (λ y. stripped p ++ unless_filler y w []) e

pub stripped_events : (cs : List Code) → stripped (map event_word cs) ≡ map event_word cs
stripped_events [] = refl
stripped_events (c ∷ cs) = ap (λ y. unless_filler y (event_word c) (stripped (map event_word cs))) (event_says c) ∙ ap (λ ws. event_word c ∷ ws) (stripped_events cs)

pub written_append : (js ks : List (List Code)) → written (js ++ ks) ≡ written js ++ written ks
written_append [] ks = refl
written_append (j ∷ js) ks = ap (λ ws. job_words j ++ ws) (written_append js ks) ∙ sym (append_assoc (job_words j) (written js) (written ks))

-- the events of a job in two parts
pub written_job : (js : List (List Code)) (had cs : List Code) (n : ℕ) → length (had ++ cs) ≡ n → (written js ++ head_word n ∷ map event_word had) ++ map event_word cs ≡ written (js ++ (had ++ cs) ∷ [])
written_job js had cs n e =
    append_assoc (written js) (head_word n ∷ map event_word had) (map event_word cs)
    ∙ ap (λ ws. written js ++ head_word n ∷ ws) (sym (map-append event_word had cs))
    ∙ ap (λ m. written js ++ head_word m ∷ map event_word (had ++ cs)) (sym e)
    ∙ ap (λ ws. written js ++ ws) (sym (append-nil (job_words (had ++ cs))))
    ∙ sym (written_append js ((had ++ cs) ∷ []))

-- words whose rest is in two parts are in two parts
pub split : (p a b : List ℕ) → stripped p ≡ a ++ b → (q : List ℕ) × (r : List ℕ) × (p ≡ q ++ r) × (stripped q ≡ a)
split p [] b e = ([], p, refl, refl)
split [] (x ∷ a) b e = absurd (omega (arith, ap length e))
split (w ∷ p) (x ∷ a) b e = by (word_of w) refl e (split p)
  where
    kept : (y : Word) → word_of w ≡ y → ((ws : List ℕ) → unless_filler y w ws ≡ w ∷ ws) → w ∷ stripped p ≡ x ∷ (a ++ b) → ((c d : List ℕ) → stripped p ≡ c ++ d → (q : List ℕ) × (r : List ℕ) × (p ≡ q ++ r) × (stripped q ≡ c)) → (q : List ℕ) × (r : List ℕ) × (w ∷ p ≡ q ++ r) × (stripped q ≡ x ∷ a)
    kept y says stays s later =
        let h : w ≡ x = head-eq_of_cons-eq s in
        let t = later a b (tail-eq_of_cons-eq s) in
        (w ∷ t.0, t.1, ap (λ ws. w ∷ ws) t.2, ap (λ z. unless_filler z w (stripped t.0)) says ∙ stays (stripped t.0) ∙ ap (λ z. z ∷ stripped t.0) h ∙ ap (λ ws. x ∷ ws) t.3)

    by : (y : Word) → word_of w ≡ y → unless_filler y w (stripped p) ≡ x ∷ (a ++ b) → ((c d : List ℕ) → stripped p ≡ c ++ d → (q : List ℕ) × (r : List ℕ) × (p ≡ q ++ r) × (stripped q ≡ c)) → (q : List ℕ) × (r : List ℕ) × (w ∷ p ≡ q ++ r) × (stripped q ≡ x ∷ a)
    by (Event c) says s later = kept (Event c) says (λ ws. refl) s later
    by (Head n) says s later = kept (Head n) says (λ ws. refl) s later
    by (Stop n) says s later = kept (Stop n) says (λ ws. refl) s later
    by Filler says s later =
        let t = later (x ∷ a) b s in
        (w ∷ t.0, t.1, ap (λ ws. w ∷ ws) t.2, ap (λ z. unless_filler z w (stripped t.0)) says ∙ t.3)
