-- What a call leaves in a list that it was lent.
--
--   front_put new l == the list l with `new` at its front, and the places behind as they were
use Rattle.std.specs.Prelude.{List, ◌++◌, length, drop}

abbrev pub front_put : {A : Type 0} → List A → List A → List A
front_put new l = new ++ drop (length new) l
