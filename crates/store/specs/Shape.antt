-- The sizes that the code passes by value, as the rules have them.
use Rattle.rules.specs.Sizes.{Sizes}
use Rattle.store.specs.declared.Shape.{Shape}

abbrev pub sizes : Shape → Sizes
sizes z = record { B = z.entries; N = z.records; P = z.producers; M = z.starts }
