use Rattle.type_intern.proofs.CoordEquality.{coord_eq, coord_eq_itself, coord_eq_same}
use Rattle.type_intern.proofs.Entries.{Added, added, found_at}
use Rattle.type_intern.proofs.Growing.{put_grows, put_stands}
use Rattle.std.specs.Map.{keys_of}
use Rattle.type_intern.proofs.tables.Tables.put.Goals as goal

new : (c : goal.In_ok-place-in-None) → Added coord_eq c.args.self.now.nodes.entries c.args.node c.args.numbers
new c = added coord_eq coord_eq_itself c.args.self.now.nodes c.args.node c.args.numbers c.in-None.ensures.index

pub returns-in-Some-clause-value : goal.returns-in-Some-clause-value
returns-in-Some-clause-value c = found_at coord_eq coord_eq_same (keys_of c.args.self.now.nodes.entries) c.args.node
    c.in-Some.place c.in-Some.ensures.index

pub returns-in_ok-place-in-None-clause-value : goal.returns-in_ok-place-in-None-clause-value
returns-in_ok-place-in-None-clause-value c =
    put_stands c.args.self.now.types c.args.self.now.nodes.entries c.args.self.now.keys.keys c.requires.arena
    c.args.node c.args.numbers c.insert_full.new.self.entries (new c) c.in_ok-place-in-None.ensures.entries
    c.requires.fits c.in_ok-place-in-None.place c.in_ok-place-in-None.ensures.index

pub returns-in_ok-place-in-None-clause-grows : goal.returns-in_ok-place-in-None-clause-grows
returns-in_ok-place-in-None-clause-grows c =
    put_grows c.args.self.now.types c.args.self.now.nodes.entries c.args.self.now.keys.keys c.requires.arena c.args.node
    c.args.numbers c.insert_full.new.self.entries (new c) c.in_ok-place-in-None.ensures.entries c.requires.fits
    c.requires.canon c.requires.erased c.requires.key
