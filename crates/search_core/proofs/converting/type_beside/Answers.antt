use Rattle.std.proofs.Common.{sym, subst}
use Rattle.type_core.specs.Substitution.{VariablesBelow}
use Rattle.search_core.proofs.Beside.{beside_is}
use Rattle.search_core.proofs.converting.type_beside.Goals as goal

pub substitute-requires : goal.substitute-requires
substitute-requires c = record {
  below = subst (λ n. VariablesBelow n c.args.scheme.now.body) (sym c.in_ok-by.ensures.count)
      (c.scheme_variables_are_below.ensures.law c.args.scheme.now c.requires.scheme);
}

pub returns : goal.returns
returns c =
    record {
      value = beside_is c.args.scheme.now c.args.query.now c.args.partners.now _ c.requires.scheme
          c.in_ok-by.ensures.value c.substitute.result c.substitute.ensures.value;
    }
