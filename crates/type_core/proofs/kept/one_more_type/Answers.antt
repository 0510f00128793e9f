use Rattle.std.proofs.Common.{◌∷◌, [], ◌++◌, ap, sym, ◌∙◌, take}
use Rattle.type_core.specs.Kept.{or_kept}
use Rattle.type_core.proofs.KeptParts.{one_kept}
use Rattle.type_core.proofs.kept.one_more_type.Goals as goal

pub returns-in-None-done : goal.returns-in-None-done
returns-in-None-done c = record {
  value = one_kept c.args.parts.now c.args.i c.args.part.now c.args.done c.in-None-done.is c.requires.here
      ∙ ap (λ n. or_kept (take c.args.i c.args.parts.now) c.args.done ++ or_kept c.args.part.now n ∷ []) (sym c.in-None.is);
}
