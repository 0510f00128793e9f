use Rattle.std.proofs.Common.{◌≡◌, ◌+◌, ◌*◌, ◌-◌}
use Rattle.lib_index.specs.Reading.{field_at, many, rest_of, told, type_at, with_front}
use Rattle.lib_index.proofs.type_reading.+types.Given as goal

abbrev pub decreases-type_of : goal.decreases-type_of
decreases-type_of l = 5 * l.height

abbrev pub decreases-of_form : goal.decreases-of_form
decreases-of_form l = 5 * l.height + 4

abbrev pub decreases-application : goal.decreases-application
decreases-application l = 5 * l.height + 3

abbrev pub decreases-tuple : goal.decreases-tuple
decreases-tuple l = 5 * l.height + 3

abbrev pub decreases-arrow : goal.decreases-arrow
decreases-arrow l = 5 * l.height + 3

abbrev pub decreases-labelled : goal.decreases-labelled
decreases-labelled l = 5 * l.height + 3

abbrev pub decreases-types : goal.decreases-types
decreases-types l = 5 * l.height + 2

abbrev pub decreases-fields : goal.decreases-fields
decreases-fields l = 5 * l.height + 2

abbrev pub decreases-field : goal.decreases-field
decreases-field l = 5 * l.height + 1

abbrev pub invariant-types-loop : goal.invariant-types-loop
invariant-types-loop l = with_front l.types (many (type_at l.place.names.now (told l.place.marks) l.height)
    (l.count - l.counter) (rest_of l.after)) ≡ many (type_at l.place.names.now (told l.place.marks) l.height) l.count
    (rest_of l.rest)

abbrev pub invariant-fields-loop : goal.invariant-fields-loop
invariant-fields-loop l = with_front l.fields (many (field_at (type_at l.place.names.now
    (told l.place.marks) l.height)) (l.count - l.counter) (rest_of l.after)) ≡ many
    (field_at (type_at l.place.names.now (told l.place.marks) l.height)) l.count (rest_of l.rest)
