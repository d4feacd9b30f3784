-- The tally of jobs, one word after another
use Rattle.std.proofs.Common.{◌≡◌, ℕ, Bool, true, false, ◌&&◌, ◌||◌, eqb, List, [], ◌∷◌, ◌++◌, sym, refl, ap, ◌∙◌, arith}
use mathlib.Core.Bool.{or_comm, and_comm}
use Rattle.std.proofs.lemmas.Bool.{both_ways, eq-eqb, ne_eqb}
use Rattle.groups.proofs.Sets.{none}
use Rattle.flow.specs.declared.tally.Tally.{Tally}
use Rattle.flow.specs.Bits.{bit, row}
use Rattle.flow.specs.Flow.{some, has, begins, ends, next, three}
use Rattle.flow.specs.Reading.{Noted, Ended, Part, told, ends_earlier, Tallies}
use Rattle.flow.proofs.Bits.{in_bit, bit_none, bit_or_lem}
use Rattle.flow.proofs.Growth.{some_push, empty, begins_push, ends_push, ends_earlier_push, next_push, three_push}
use Rattle.flow.proofs.Marks.{moved, when_added, when_joined}

-- the jobs with one event more, and with the end of the one being read
abbrev pub event_in : Part → ℕ → Part
event_in r s = record { past = r.past; present = r.present ++ s ∷ [] }

abbrev pub end_in : Part → Part
end_in r = record { past = r.past ++ r.present ∷ []; present = [] }

-- the set of the latest step is 0 only where the job is empty
latest_empty : (g : ℕ) (xs : List ℕ) → ((s : ℕ) → bit g s ≡ ends s xs) → eqb g 0 ≡ empty xs
latest_empty g [] h = eq-eqb g 0 (none g (λ p i. both_ways (bit g p) (h p) (in_bit g p i)))
latest_empty g (x ∷ xs) h = ne_eqb g 0 (λ e. let (p, t) = some_last x xs in both_ways (bit g p) (ap (λ n. bit n p) e ∙ bit_none p) (h p ∙ t))
  where
    some_last : (y : ℕ) (ys : List ℕ) → (p : ℕ) × (ends p (y ∷ ys) ≡ true)
    some_last y [] = (y, eq-eqb y y refl)
    some_last y (z ∷ zs) = some_last z zs

-- what a test over the jobs comes to at an event, where the job's own test grows by `more`
grown : (t : List ℕ → Bool) (r : Part) (s : ℕ) (old more new : Bool) → t (r.present ++ s ∷ []) ≡ (t r.present || more) → old ≡ told t r → new ≡ (old || more) → new ≡ told t (event_in r s)
grown t r s old more new e was is = rw (is, was, e) (grind arith)

-- and at a job's end
same_told : (t : List ℕ → Bool) (r : Part) → t [] ≡ false → told t r ≡ told t (end_in r)
same_told t r e = rw (e, some_push t r.past r.present) (or_comm (t r.present) (some t r.past))

module _ (r : Part) (old : Tally) (was : Tallies r old) (s : ℕ) (new : Tally) (n : Noted old s new) where
  looped : (p : ℕ) → (bit old.latest s && eqb s p) ≡ (ends p r.present && eqb s p)
  looped p = moved (bit old.latest) s p ∙ ap (λ b. b && eqb s p) (was.latest_is p)

  returned : (a b : ℕ) → (bit old.earlier s && (eqb s a && bit old.latest b)) ≡ ((ends_earlier a r.present && ends b r.present) && eqb s a)
  returned a b = rw (← was.latest_is b, ← was.earlier_is a) (let e = moved (bit old.earlier) s a in grind arith)

  pub tallies_event : Tallies (event_in r s) new
  tallies_event = record {
    seen_is = λ p. grown (has p) r s _ (eqb s p) _ (some_push (λ x. eqb x p) r.present s) (was.seen_is p) (n.seen_is p);
    looping_is = λ p. grown (next p p) r s _ _ _ (next_push p p r.present s) (was.looping_is p) (when_added _ _ s _ n.looping_is p ∙ ap (λ b. bit old.looping p || b) (looped p));
    first_is = λ p. grown (begins p) r s _ _ _ (begins_push p r.present s) (was.first_is p) (when_added _ _ s _ n.first_is p ∙ ap (λ b. bit old.first p || (b && eqb s p)) (latest_empty old.latest r.present was.latest_is));
    last_is = λ p. ap (λ g. bit g p) n.last_is ∙ was.last_is p;
    followed_is = λ a b. grown (next a b) r s _ _ _ (next_push a b r.present s) (was.followed_is a b) (n.followed_is b a ∙ ap (λ t. row old.followed b a || t) (and_comm (eqb s b) (bit old.latest a) ∙ ap (λ t. t && eqb s b) (was.latest_is a)));
    returns_is = λ a b. grown (three a b a) r s _ _ _ (three_push a b a r.present s) (was.returns_is a b) (when_joined _ _ s _ _ n.returns_is a b ∙ ap (λ t. row old.returns a b || t) (returned a b));
    latest_is = λ p. n.latest_is p ∙ ap (λ t. t || eqb s p) (bit_none p) ∙ sym (ends_push p r.present s);
    earlier_is = λ p. ap (λ g. bit g p) n.earlier_is ∙ was.latest_is p ∙ sym (ends_earlier_push p r.present s);
  }

module _ (r : Part) (old : Tally) (was : Tallies r old) (new : Tally) (n : Ended old new) where
  pub tallies_end : Tallies (end_in r) new
  tallies_end = record {
    seen_is = λ p. ap (λ g. bit g p) n.seen_is ∙ was.seen_is p ∙ same_told (has p) r refl;
    looping_is = λ p. ap (λ g. bit g p) n.looping_is ∙ was.looping_is p ∙ same_told (next p p) r refl;
    first_is = λ p. ap (λ g. bit g p) n.first_is ∙ was.first_is p ∙ same_told (begins p) r refl;
    last_is = λ p. ap (λ g. bit g p) n.last_is ∙ bit_or_lem old.last old.latest p ∙ rw (was.last_is p, was.latest_is p) (sym (some_push (ends p) r.past r.present));
    followed_is = λ a b. ap (λ g. row g b a) n.followed_is ∙ was.followed_is a b ∙ same_told (next a b) r refl;
    returns_is = λ a b. ap (λ g. row g a b) n.returns_is ∙ was.returns_is a b ∙ same_told (three a b a) r refl;
    latest_is = λ p. ap (λ g. bit g p) n.latest_is ∙ bit_none p;
    earlier_is = λ p. ap (λ g. bit g p) n.earlier_is ∙ bit_none p;
  }
