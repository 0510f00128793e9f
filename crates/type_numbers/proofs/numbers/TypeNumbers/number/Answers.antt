use Rattle.std.proofs.Common.{◌≡◌, List, Result, Ok, Err, OnErr, ap, ◌∙◌, subst}
use Rattle.std.proofs.lemmas.Result.{IfOk-weaker, on_err_weaker}
use Rattle.type_core.specs.declared.ty.Ty.{Ty}
use Rattle.type_numbers.specs.Numbers.{AreNumbers, IsNumbered, types_under}
use Rattle.type_numbers.proofs.Numbering.{is_numbered, more_numbers, still_numbers, under_once, under_stays}
use Rattle.type_numbers.proofs.numbers.TypeNumbers.number.Goals as goal

still : (c : goal.After-from_residual) → AreNumbers c.intern.new.self.types c.self.inside.ids.keys
still c = still_numbers c.self.inside.arena.types c.intern.new.self.types c.intern.ensures.keeps.types
    c.self.inside.ids.keys c.self.invariant c.intern.ensures.once

stays : (c : goal.After-from_residual) → types_under c.intern.new.self.types c.self.inside.ids.keys ≡ c.args.self.now
stays c = under_stays c.self.inside.arena.types c.intern.new.self.types c.intern.ensures.keeps.types
    c.self.inside.ids.keys c.self.invariant c.intern.ensures.once ∙ c.self.view_is

more : (c : goal.After-place_of) → AreNumbers c.intern.new.self.types c.place_of.new.ids.keys
more c = more_numbers c.self.inside.arena.types c.intern.new.self.types c.intern.ensures.keeps.types
    c.self.inside.ids.keys c.self.invariant c.intern.ensures.once c.in_ok-id.id c.args.t.now c.in_ok-id.ensures.value
    c.place_of.new.ids.keys c.place_of.ensures.grows (c.place_of.ensures.once c.self.invariant.ids_once)

on_either : {T E P : Type 0} (r : Result T E) → P → OnErr r P
on_either (Ok t) p = tt
on_either (Err e) p = p

pub invariant_of-self : goal.invariant_of-self
invariant_of-self c = still c

pub invariant_of-self-2 : goal.invariant_of-self-2
invariant_of-self-2 c = more c

pub returns-in_err-id-clause-once : goal.returns-in_err-id-clause-once
returns-in_err-id-clause-once c = under_once c.intern.new.self.types c.self.inside.ids.keys (still c)

pub returns-in_err-id-clause-kept : goal.returns-in_err-id-clause-kept
returns-in_err-id-clause-kept c = on_either c.from_residual.result (stays c)

pub returns-clause-value : goal.returns-clause-value
returns-clause-value c =
    IfOk-weaker c.place_of.result (IsNumbered c.self.inside.ids.keys c.in_ok-id.id c.place_of.new.ids.keys) _
    (λ n is. subst (λ (ts : List Ty). IsNumbered ts c.args.t.now
    (types_under c.intern.new.self.types c.place_of.new.ids.keys) n) c.self.view_is
    (is_numbered c.self.inside.arena.types c.intern.new.self.types c.intern.ensures.keeps.types
    c.self.inside.ids.keys c.self.invariant c.intern.ensures.once c.in_ok-id.id c.args.t.now c.in_ok-id.ensures.value
    c.place_of.new.ids.keys n is)) c.place_of.ensures.value

pub returns-clause-once : goal.returns-clause-once
returns-clause-once c = under_once c.intern.new.self.types c.place_of.new.ids.keys (more c)

pub returns-clause-kept : goal.returns-clause-kept
returns-clause-kept c = on_err_weaker c.place_of.result
    (λ same. ap (types_under c.intern.new.self.types) same ∙ under_stays c.self.inside.arena.types
    c.intern.new.self.types c.intern.ensures.keeps.types c.self.inside.ids.keys c.self.invariant c.intern.ensures.once
    ∙ c.self.view_is) c.place_of.ensures.kept
