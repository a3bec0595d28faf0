-- Points that belong to a disk.
--
--   Meaning   what the definition says, in the words of demand 2 (belongs-meaning)
--   Tests     what code can test instead (belongs-one, belongs-two, belongs-three)
--   Known     the same for a disk and points that a record can hold
--   Answers   the engine's disk and support set belong together (answer-belongs), and what belongs together is such an answer (own-first)
pub mod Meaning
pub mod Tests
pub mod Known
pub mod Answers
