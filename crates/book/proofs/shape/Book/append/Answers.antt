use Rattle.std.proofs.Common.{◌≡◌, ℕ, ◌+◌, ◌^◌, ◌<◌, List, ◌++◌, length, take, set, sym, refl, ap, ◌∙◌, subst, add-one, arith}
use lib.Seq.{paste, paste-suc, length-paste}
use Rattle.book.specs.Jobs.{encoded}
use Rattle.book.proofs.Lay.{Facts, facts, appended, appended_held, paste_head, took, used_is}
use Rattle.std.proofs.lemmas.List.{length-set}
use Rattle.book.proofs.shape.Book.append.Goals as goal
use Rattle.book.proofs.shape.Book.append.Goals.{After-loop-k}

pub loop-k-preserved : goal.loop-k-preserved
loop-k-preserved c =
    let ws : List ℕ = set c.args.self.now.words.now c.args.self.now.used (2 ^ 30 + length c.args.job.now) in
    let at : ℕ = c.args.self.now.used + 1 in
    let k = c.loop-k.k in
    let job = c.args.job.now in (
      ap (λ (x : List ℕ). set x (at + k) c.from.result) c.loop-k.invariant.0
          ∙ ap (λ (x : ℕ). set (paste ws at job k) (at + k) x) c.from.ensures
          ∙ paste-suc ws at job k 0 (omega (arith, length-set c.args.self.now.words.now c.args.self.now.used (2 ^ 30 + length c.args.job.now), c.requires.room, c.loop-k-test.true)) c.loop-k-test.true
          ∙ ap (paste ws at job) (sym (add-one k)),
      c.loop-k.invariant.1,
      c.loop-k.invariant.2,
      c.loop-k.invariant.3,
    )

-- what the loop leaves
wrote : (c : goal.After-loop-k) → c.loop-k.self.words.now ≡ paste c.args.self.now.words.now c.args.self.now.used (encoded c.args.job.now) (length (encoded c.args.job.now))
wrote c =
    let k : c.loop-k.k ≡ length c.args.job.now = omega arith in
    let lt : c.args.self.now.used < length c.args.self.now.words.now = omega (arith, c.requires.room) in
    c.loop-k.invariant.0 ∙ ap (paste _ (c.args.self.now.used + 1) c.args.job.now) k ∙ paste_head c.args.self.now.words.now c.args.self.now.used (2 ^ 30 + length c.args.job.now) c.args.job.now (length c.args.job.now) lt

fronts : (c : goal.After-loop-k) → take (c.args.self.now.used + 1 + length c.args.job.now) c.loop-k.self.words.now ≡ take c.args.self.now.used c.args.self.now.words.now ++ encoded c.args.job.now
fronts c =
    let n : c.args.self.now.used + 1 + length c.args.job.now ≡ c.args.self.now.used + length (encoded c.args.job.now) = omega arith in
    ap (take (c.args.self.now.used + 1 + length c.args.job.now)) (wrote c) ∙ took c.args.self.now.words.now c.args.self.now.used (encoded c.args.job.now) _ n c.args.self.now.within

as_long : (c : goal.After-loop-k) → length c.loop-k.self.words.now ≡ length c.args.self.now.words.now
as_long c = ap length (wrote c) ∙ length-paste c.args.self.now.words.now c.args.self.now.used (encoded c.args.job.now) (length (encoded c.args.job.now)) (omega (arith, c.requires.room)) (omega arith)

pub invariant_of-self-2 : goal.invariant_of-self-2
invariant_of-self-2 c =
    subst (λ (s : ℕ). Facts s (c.args.self.now.used + 1 + length c.args.job.now) c.loop-k.self.words.now) (sym c.loop-k.invariant.2)
    (appended c.args.self.now.steps c.args.self.now.used c.args.self.now.words.now c.args.job.now c.requires.open (facts c.args.self.now) c.requires.steps
    c.loop-k.self.words.now _ (as_long c) c.requires.room (fronts c) c.requires.sized.0 c.requires.sized.1 c.requires.new)

pub returns : goal.returns
returns c =
    let d = (goal.at.returns c).After-loop-k in
    record { words = wrote d ∙ ap (λ (n : ℕ). paste c.args.self.now.words.now n (encoded c.args.job.now) (length (encoded c.args.job.now))) (used_is c.args.self.now c.requires.open); used = refl; held = appended_held c.args.self.now.steps c.args.self.now.used c.args.self.now.words.now c.args.job.now c.requires.open (facts c.args.self.now) c.requires.steps c.loop-k.self.words.now _ (fronts d); stays = record { steps = c.loop-k.invariant.2; long = as_long d; named = c.loop-k.invariant.3 } }
