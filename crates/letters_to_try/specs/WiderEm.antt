-- Letters at the limits of the em (02, item 10: "Most of our new faces are drawn on 2,048 units"). Shown in proofs/WiderEm.antt.
--
--   wide_letters   == the em box's four corners, whose disk is the largest; one of the least E with S above 2⁶⁴; E near its limit
use Rattle.std.specs.Prelude.{List, [], ◌∷◌}
use Rattle.std.proofs.Math.Option.{none}
use Rattle.letters_to_try.specs.Letters.{Letter, at, below, disk}

abbrev pub wide_letters : List Letter
wide_letters =
    record {
      list = below 0 511 ∷ below 2048 511 ∷ at 0 1536 ∷ at 2048 1536 ∷ [];
      disk = disk 1024 512 1 2_097_152;
      support = below 0 511 ∷ at 2048 1536 ∷ [];
      radius = 1449;
      tests = none;
      left = none;
    }
    ∷ record {
      list = below 178 142 ∷ at 2007 864 ∷ below 2023 248 ∷ [];
      disk = disk 4_631_689_451 1_209_566_027 4_103_578 18_446_744_364_319_027_250;
      support = below 178 142 ∷ at 2007 864 ∷ below 2023 248 ∷ [];
      radius = 1047;
      tests = none;
      left = none;
    }
    ∷ record {
      list = below 0 511 ∷ below 2048 508 ∷ at 1 1536 ∷ [];
      disk = disk 8_577_370_109 4_290_778_103 8_388_602 147_286_249_292_406_046_810;
      support = below 0 511 ∷ at 1 1536 ∷ below 2048 508 ∷ [];
      radius = 1447;
      tests = none;
      left = none;
    }
    ∷ []
