-- The face of a table: one variable, and two operations without parameters.
use Rattle.std.specs.Prelude.{[], ◌∷◌, codes}
use Rattle.b_values.specs.declared.types.Face.{Face}
use Rattle.b_values.specs.declared.types.NameFace.{NameFace}
use Rattle.b_values.specs.declared.types.OpFace.{OpFace}
use Rattle.b_values.specs.declared.types.Prefs.{Prefs}
use Rattle.b_values.specs.declared.types.Ty.TheVariants as ty

abbrev pub the_variable : NameFace
the_variable = record { name = codes "n"; ty = ty.Int }

abbrev pub up : OpFace
up = record { name = codes "up"; params = []; results = [] }

abbrev pub down : OpFace
down = record { name = codes "down"; params = []; results = [] }

abbrev pub table_face : Prefs → Face
table_face prefs = record {
  name = codes "Table";
  sets = [];
  constants = [];
  variables = the_variable ∷ [];
  ops = up ∷ down ∷ [];
  prefs = prefs;
}
