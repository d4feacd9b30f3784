-- What `!=` answers of steps. Assumes nothing.
use Rattle.std.proofs.Common.{◌≡◌, Bool, not, sym, ap}
use Rattle.std.specs.declared.cmp.Ordering.{Ordering}
use Rattle.std.specs.declared.cmp.Ordering.TheVariants.{Less, Equal, Greater}
use Rattle.std.specs.Ordering.{is_eq, is_ne}

-- what `!=` answers is whether the order tells the two apart
pub told_apart : (b : Bool) (o : Ordering) → b ≡ is_eq o → is_ne o ≡ not b
told_apart b Less e = ap not (sym e)
told_apart b Equal e = ap not (sym e)
told_apart b Greater e = ap not (sym e)
