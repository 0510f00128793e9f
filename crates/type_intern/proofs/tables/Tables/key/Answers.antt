use Rattle.type_intern.proofs.Growing.{key_added, list_stands}
use Rattle.type_intern.proofs.tables.Tables.key.Goals as goal

pub returns-clause-value : goal.returns-clause-value
returns-clause-value c = record {
  key = c.in_ok-erased.erased;
  stands = list_stands c.insert_full.new.self.keys c.in_ok-erased.erased c.in_ok-key.key c.in_ok-key.ensures.stored;
  is = c.in_ok-erased.ensures.value;
}

pub returns-clause-grows : goal.returns-clause-grows
returns-clause-grows c = key_added c.args.self.now.types c.args.self.now.nodes.entries c.args.self.now.keys.keys
    c.insert_full.new.self.keys c.requires.arena c.args.ids.now c.in_ok-erased.erased c.requires.within
    c.in_ok-erased.ensures.value c.in_ok-key.ensures.keys
