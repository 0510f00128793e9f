use Rattle.std.proofs.Common.{take}
use Rattle.std.proofs.lemmas.Result.{on_ok_weaker}
use Rattle.elab_rules.specs.declared.index.Index.TheViews.{out-roll-Index}
use Rattle.elab_rules.proofs.IndexSteps.{indexed_further, indexed_whole, structure_indexed, type_indexed, value_indexed}
use Rattle.elab_rules.proofs.index.+indexing.Goals as goal

pub index_entry-returns-in-Tycon : goal.index_entry-returns-in-Tycon
index_entry-returns-in-Tycon t c = record {
  added = on_ok_weaker c.insert_new.result
      (λ inserted. type_indexed c.args.index.now _ c.insert_new.new.self c.args.entry.now c.in-Tycon.tycon _ c.args.place (simp out-roll-Index) c.in-Tycon.is c.as_slice.ensures.value inserted)
      c.insert_new.ensures.inserted;
}

pub index_entry-returns-in-Value : goal.index_entry-returns-in-Value
index_entry-returns-in-Value t c = record {
  added = on_ok_weaker c.insert_new-in-Value.result
      (λ inserted. value_indexed c.args.index.now _ c.insert_new-in-Value.new.self c.args.entry.now c.in-Value.value _ c.args.place (simp out-roll-Index) c.in-Value.is c.as_slice-in-Value.ensures.value inserted)
      c.insert_new-in-Value.ensures.inserted;
}

pub index_entry-returns-in_ok-inner-in-Structure : goal.index_entry-returns-in_ok-inner-in-Structure
index_entry-returns-in_ok-inner-in-Structure t c = record {
  added = on_ok_weaker c.add_structure.result
      (λ added before h at.
      structure_indexed c.add_structure.new.self c.args.entry.now c.in-Structure.id _ c.in-Structure.entries _ before c.in-Structure.is c.as_slice-in-Structure-2.ensures.value c.as_slice-in-Structure.ensures.value
      (added before c.as_slice-in-Structure.result.now h at c.in_ok-inner-in-Structure.ensures.value))
      c.add_structure.ensures.added;
}

pub index_of-loop-place-preserved : goal.index_of-loop-place-preserved
index_of-loop-place-preserved t c =
    let entries = c.args.entries.now in
    indexed_further c.index_entry.new.index entries c.loop-place.place c.index-entries-place.result c.loop-place-test.true c.index-entries-place.is
    (c.in_ok-index_entry.ensures.added (take c.loop-place.place entries) c.loop-place.invariant)

pub index_of-returns : goal.index_of-returns
index_of-returns t c = record { value = indexed_whole c.loop-place.index c.args.entries.now c.loop-place.place c.loop-place-test.false c.loop-place.invariant }
