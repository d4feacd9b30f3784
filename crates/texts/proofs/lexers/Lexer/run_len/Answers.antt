use Rattle.std.proofs.Common.{◌≡◌, ◌-◌, length, take, drop, ◌∙◌, rules, tests, arith}
use Rattle.std.proofs.lemmas.Iterator.{YieldsList-from_slice, YieldsList-from_take}
use Rattle.std.proofs.lemmas.Iterator.Search.{YieldsList-from_take_while}
use Rattle.std.proofs.lemmas.Iterator.Consumers.{count_from_yields_List}
use Rattle.std.proofs.lemmas.List.{take_all, length-drop}
use Rattle.std.proofs.lemmas.List.Folds.{length-prefix_len}
use Rattle.steps.specs.Ranges.{name_byte}
use Rattle.texts.proofs.Runs.{run_prefix}
use Rattle.texts.proofs.lexers.Lexer.run_len.Goals as goal

pub returns-clause-run : goal.returns-clause-run
returns-clause-run c =
    let bs = drop c.args.self.now.at c.args.self.now.text.now in
    let whole : take (length c.args.self.now.text.now - c.args.self.now.at) bs ≡ bs = take_all (length c.args.self.now.text.now - c.args.self.now.at) bs (omega (arith, length-drop c.args.self.now.at c.args.self.now.text.now)) in
    count_from_yields_List _ _ c.count.ensures.ran
    (YieldsList-from_take_while _ name_byte (YieldsList-from_take 8 (YieldsList-from_slice bs (cc)) (cc)) (cc) (cc) (λ x b q k. search (rules, tests)))
    ∙ (length-prefix_len name_byte (take 8 bs) ∙ run_prefix 8 bs)
