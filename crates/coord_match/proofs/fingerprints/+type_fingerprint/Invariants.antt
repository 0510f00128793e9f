use Rattle.std.proofs.Common.{◌≡◌, drop, map}
use Rattle.coord_match.specs.search.Fingerprints.{all_mixed, field_fingerprint, type_fingerprint}
use Rattle.coord_match.proofs.fingerprints.+type_fingerprint.Given as goal

abbrev pub invariant-all_mixed-loop-part : goal.invariant-all_mixed-loop-part
invariant-all_mixed-loop-part l = all_mixed l.number (map type_fingerprint (drop l.part-index l.parts)) ≡ all_mixed l.start (map type_fingerprint l.parts)

abbrev pub invariant-fields_mixed-loop-field : goal.invariant-fields_mixed-loop-field
invariant-fields_mixed-loop-field l = all_mixed l.number (map field_fingerprint (drop l.field-index l.fields)) ≡ all_mixed l.start (map field_fingerprint l.fields)
