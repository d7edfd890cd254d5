use Rattle.std.proofs.Common.{◌≡◌, ◌<◌, ◌^◌, take}
use Rattle.std.specs.Str.Parse.{AllDigits, digits_value}
use Rattle.property_keys.proofs.numbers.natural.Given as goal

abbrev pub invariant-loop-unit : goal.invariant-loop-unit
invariant-loop-unit l = record {
  digits : AllDigits l.radix (take l.unit-index l.digits);
  value : l.value ≡ digits_value l.radix (take l.unit-index l.digits);
  bound : l.value < 2 ^ 53;
}
