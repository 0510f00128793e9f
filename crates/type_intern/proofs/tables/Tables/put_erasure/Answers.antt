use Rattle.std.proofs.Common.{◌≡◌, List, ap, refl, sym, ◌∙◌}
use Rattle.std.specs.Map.{keys_of}
use Rattle.indexmap.specs.IndexMap.{insert_entry}
use Rattle.type_intern.specs.declared.node.CoordNode.{CoordNode}
use Rattle.type_intern.specs.declared.node.Numbers.{Numbers}
use Rattle.type_intern.proofs.CoordEquality.{coord_eq, coord_eq_itself, coord_eq_same}
use Rattle.type_intern.proofs.Entries.{Added, added, found_at}
use Rattle.type_intern.proofs.Growing.{list_stands, put_own_grows, put_stands}
use Rattle.type_intern.proofs.tables.Tables.put_erasure.Goals as goal

abbrev numbers : (c : goal.In_ok-insert_full-in-None) → Numbers
numbers c = record {
  canon = record { 0 = c.len.result };
  erased = record { 0 = c.len.result };
  key = record { 0 = c.in_ok-key-in-None.key };
}

new : (c : goal.In_ok-insert_full-in-None) → Added coord_eq c.args.self.now.nodes.entries c.args.node (numbers c)
new c = added coord_eq coord_eq_itself c.args.self.now.nodes c.args.node (numbers c) c.in-None.ensures.index

entries : (c : goal.In_ok-insert_full-in-None)
    → c.insert_full-in-None.new.self.entries ≡ insert_entry coord_eq c.args.self.now.nodes.entries c.args.node
    (numbers c)
entries c = c.in_ok-insert_full-in-None.ensures.entries ∙ ap (λ (es : List (CoordNode × Numbers)). insert_entry coord_eq
    es c.args.node (numbers c)) c.in_ok-reserve-in-None.ensures.entries

pub returns-in-Some-clause-value : goal.returns-in-Some-clause-value
returns-in-Some-clause-value c = found_at coord_eq coord_eq_same (keys_of c.args.self.now.nodes.entries) c.args.node
    c.in-Some.place c.in-Some.ensures.index

pub returns-in_ok-insert_full-in-None-clause-value : goal.returns-in_ok-insert_full-in-None-clause-value
returns-in_ok-insert_full-in-None-clause-value c =
    put_stands c.args.self.now.types c.args.self.now.nodes.entries c.args.self.now.keys.keys c.requires.arena
    c.args.node (numbers c) c.insert_full-in-None.new.self.entries (new c) (entries c) c.requires.fits
    c.len.result (c.len.ensures.len ∙ sym (new c).place)

pub returns-in_ok-insert_full-in-None-clause-grows : goal.returns-in_ok-insert_full-in-None-clause-grows
returns-in_ok-insert_full-in-None-clause-grows c =
    put_own_grows c.args.self.now.types c.args.self.now.nodes.entries c.args.self.now.keys.keys c.requires.arena
    c.args.node (numbers c) c.insert_full-in-None.new.self.entries (new c) (entries c) c.requires.fits
    c.len.result c.len.ensures.len refl refl c.in_ok-alone-in-None.alone c.in_ok-alone-in-None.ensures.value
    c.insert_full.new.self.keys c.in_ok-key-in-None.ensures.keys
    (list_stands c.insert_full.new.self.keys c.in_ok-alone-in-None.alone c.in_ok-key-in-None.key
    c.in_ok-key-in-None.ensures.stored) c.requires.erased c.requires.canonical
