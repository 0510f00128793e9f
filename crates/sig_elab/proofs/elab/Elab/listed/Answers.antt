use Rattle.std.proofs.Common.{◌≡◌, ◌<◌, ℕ, length, map, slice_index_or, ap, ◌∙◌}
use Rattle.std.proofs.lemmas.Option.{get_or_from_slice_get}
use Rattle.elab_rules.specs.Library.{library, number_kept}
use Rattle.elab_rules.specs.Views.{gone_of, state_of}
use Rattle.elab_phrases.specs.Renumbering.{unit_with_numbers}
use Rattle.sig_elab.proofs.UnitsListed.{library_listed, units_numbered}
use Rattle.sig_elab.proofs.elab.Elab.listed.Goals as goal

pub returns : goal.returns
returns c =
    let units = c.self.inside.units.entries.items in
    let table = c.self.inside.progress.table in
    let numbers = c.as_slice.result.now in
    let f = λ (n : ℕ). slice_index_or numbers n 0 in
    let same : (n : ℕ) → n < length table.names → f n ≡ number_kept (gone_of table) n
    = λ n within. ap (λ ns. slice_index_or ns n 0) c.as_slice.ensures.value ∙ get_or_from_slice_get c.in_ok-numbers.numbers.items n _ 0 (c.in_ok-numbers.ensures.value n within) in
    record {
      library =
          library_listed (record { units = units; state = state_of c.self.inside.progress }) c.as_slice-units.result.now _ _ _ _
          (c.as_slice-units.ensures.value ∙ c.in_ok-units.ensures.value ∙ ap (map (unit_with_numbers f)) c.as_slice-2.ensures.value ∙ units_numbered table f same units c.self.invariant.kept.settled)
          c.in_ok-all_units.ensures.value c.in_ok-all_names.ensures.value c.in_ok-all_tycons.ensures.value c.in_ok-all_members.ensures.value
          ∙ ap library c.self.view_is;
    }
