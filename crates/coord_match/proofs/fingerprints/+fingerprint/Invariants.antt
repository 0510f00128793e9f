use Rattle.std.proofs.Common.{◌≡◌, ◌+◌, ◌%◌, drop}
use Rattle.coord_match.specs.search.Fingerprints.{fingerprint_sum}
use Rattle.coord_match.proofs.fingerprints.+fingerprint.Given as goal

abbrev pub invariant-fingerprint_sum-loop-c : goal.invariant-fingerprint_sum-loop-c
invariant-fingerprint_sum-loop-c l = (l.sum + fingerprint_sum (drop l.c-index l.cs)) % 4294967296 ≡ fingerprint_sum l.cs % 4294967296
