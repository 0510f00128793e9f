use Rattle.std.proofs.Common.{◌∙◌, sym, ap}
use Rattle.std.specs.Prelude.{Some}
use Rattle.sig_base.proofs.Places.{get-found, get-none}
use Rattle.sig_base.proofs.mem_files.bytes_of.Goals as goal

pub returns-in-Some-clause-some : goal.returns-in-Some-clause-some
returns-in-Some-clause-some c =
    get-found _ _ _ c.index-files-place.result (sym c.in-Some.ensures.place) ∙ ap (λ bytes. Some bytes) (sym c.as_slice.ensures.value)

pub returns-in-None-clause-none : goal.returns-in-None-clause-none
returns-in-None-clause-none c = get-none _ _ (sym c.in-None.ensures.place)
