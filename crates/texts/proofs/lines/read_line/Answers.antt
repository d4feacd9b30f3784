use Rattle.std.proofs.Common.{◌≡◌, ◌+◌, ◌<◌, ◌≤◌, false, [], length, take, drop, set, sym, ap, ◌∙◌, arith}
use Rattle.trails.specs.Told.{first}
use Rattle.texts.specs.declared.verdicts.Verdict.TheVariants.{Take, Gap, Close, Over, Wrong}
use Rattle.texts.specs.Scan.{scan, from}
use Rattle.texts.proofs.Sofar.{Sofar, Outcome, turned, took, spelled_token}
use Rattle.texts.proofs.lines.read_line.Goals as goal

-- the loop's state after a name is taken
taken : (c : goal.In-Take) → (c.loop-name.len < 1000) × (c.loop-name.lexer.at < c.token.new.self.at) × Sofar c.args.text.now c.args.at c.token.new.self.at false (take (c.loop-name.len + 1) (set c.loop-name.work c.loop-name.len c.in-Take.name))
taken c =
    let inv = c.loop-name.invariant in
    let text = c.args.text.now in
    let was = c.loop-name.lexer.text.now in
    let i = c.loop-name.lexer.at in
    let j = c.token.new.self.at in
    let room : 1000 ≤ length c.loop-name.work = omega arith in
    took text was c.args.at i j c.loop-name.len c.loop-name.work inv.1 inv.0 room c.in-Take.name
    (turned text was c.args.at i j c.loop-name.len c.loop-name.work inv.1 inv.0 room c.token.result c.loop-name.due (Take c.in-Take.name) c.token.ensures.read c.in-Take.ensures inv.2)

-- and after a space
gone : (c : goal.In-Gap) → Outcome c.args.text.now c.args.at c.loop-name.lexer.at c.token.new.self.at (take c.loop-name.len c.loop-name.work) Gap
gone c =
    let inv = c.loop-name.invariant in
    turned c.args.text.now c.loop-name.lexer.text.now c.args.at c.loop-name.lexer.at c.token.new.self.at c.loop-name.len c.loop-name.work inv.1 inv.0 (omega arith) c.token.result c.loop-name.due Gap c.token.ensures.read c.in-Gap.ensures inv.2

pub loop-name-init : goal.loop-name-init
loop-name-init c =
    let start : c.args.at ≡ c.new-lexer.result.at = omega arith in
    (omega arith, c.new-lexer.ensures.0, ap (λ i. scan 1000 (drop i c.args.text.now) i [] []) start)

pub judge-requires : goal.judge-requires
judge-requires c = record { spelled = spelled_token _ _ _ c.token.result c.token.ensures.read; len_bound = c.loop-name.invariant.0 }

pub offset_bounds-work-len : goal.offset_bounds-work-len
offset_bounds-work-len c = omega (arith, (taken c).0)

pub bounds-work-len : goal.bounds-work-len
bounds-work-len c = omega (arith, (taken c).0)

pub overflow_add-len : goal.overflow_add-len
overflow_add-len c = omega (arith, (taken c).0)

pub loop-name-smaller-in-Take : goal.loop-name-smaller-in-Take
loop-name-smaller-in-Take c = omega (arith, (taken c).1, c.token.new.self.ok, ap length c.loop-name.invariant.1, ap length c.token.ensures.text_unchanged)

pub loop-name-preserved-in-Take : goal.loop-name-preserved-in-Take
loop-name-preserved-in-Take c = (omega (arith, (taken c).0), c.token.ensures.text_unchanged ∙ c.loop-name.invariant.1, (taken c).2)

pub loop-name-smaller : goal.loop-name-smaller
loop-name-smaller c = omega (arith, (gone c).0, c.token.new.self.ok, ap length c.loop-name.invariant.1, ap length c.token.ensures.text_unchanged)

pub loop-name-preserved : goal.loop-name-preserved
loop-name-preserved c = (c.loop-name.invariant.0, c.token.ensures.text_unchanged ∙ c.loop-name.invariant.1, (gone c).1)

pub returns-in-Close : goal.returns-in-Close
returns-in-Close c =
    let inv = c.loop-name.invariant in
    let o = turned c.args.text.now c.loop-name.lexer.text.now c.args.at c.loop-name.lexer.at c.token.new.self.at c.loop-name.len c.loop-name.work inv.1 inv.0 (omega arith) c.token.result c.loop-name.due Close c.token.ensures.read c.in-Close.ensures inv.2 in
    (omega (arith, c.offset.ensures.1, ap length c.token.ensures.text_unchanged, ap length inv.1), inv.0, o ∙ ap (λ k. first (take c.loop-name.len c.loop-name.work) (from c.args.text.now k)) (sym c.offset.ensures.0))

pub returns-in-Over : goal.returns-in-Over
returns-in-Over c =
    let inv = c.loop-name.invariant in
    turned c.args.text.now c.loop-name.lexer.text.now c.args.at c.loop-name.lexer.at c.token.new.self.at c.loop-name.len c.loop-name.work inv.1 inv.0 (omega arith) c.token.result c.loop-name.due Over c.token.ensures.read c.in-Over.ensures inv.2

pub returns-in-Wrong : goal.returns-in-Wrong
returns-in-Wrong c =
    let inv = c.loop-name.invariant in
    turned c.args.text.now c.loop-name.lexer.text.now c.args.at c.loop-name.lexer.at c.token.new.self.at c.loop-name.len c.loop-name.work inv.1 inv.0 (omega arith) c.token.result c.loop-name.due (Wrong c.in-Wrong.fault) c.token.ensures.read c.in-Wrong.ensures inv.2
