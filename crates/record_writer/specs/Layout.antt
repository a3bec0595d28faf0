-- Where each field of a record stands and how wide it is (01: "high byte first: X, Y (signed), E, S, 8 bytes each; then three corners, x and y 2 bytes
-- each, signed"; 02, item 4: the count at its end; 02, item 10: S "stored in 16 bytes and the record has 53", and records of 45 bytes, with an S of 8, are
-- still read). This is the one home of these numbers. What stands behind S is placed by the bytes n that S has.
--
--   number_width, coordinate_width, point_width == the bytes of X, Y and E each; of a coordinate; of a point
--   s_width, old_s_width                        == the bytes of S: 16; in a record of 45 bytes 8
--   count_width                               == the bytes of the count of points
--   x_at, y_at, e_at, s_at                       == where X, Y, E and S begin
--   first_at, second_at, third_at n             == where the three points begin
--   count_at n                                == where the count of points is
--   length_by n                               == how many bytes the record has
--   record_length, old_record_length            == 53 and 45
use Rattle.std.specs.Prelude.{ℕ, ◌+◌, ◌*◌}

abbrev pub number_width : ℕ
number_width = 8

abbrev pub coordinate_width : ℕ
coordinate_width = 2

abbrev pub point_width : ℕ
point_width = coordinate_width + coordinate_width

abbrev pub s_width : ℕ
s_width = 16

abbrev pub old_s_width : ℕ
old_s_width = 8

abbrev pub count_width : ℕ
count_width = 1

abbrev pub x_at : ℕ
x_at = 0

abbrev pub y_at : ℕ
y_at = x_at + number_width

abbrev pub e_at : ℕ
e_at = y_at + number_width

abbrev pub s_at : ℕ
s_at = e_at + number_width

abbrev pub first_at : ℕ → ℕ
first_at n = s_at + n

abbrev pub second_at : ℕ → ℕ
second_at n = first_at n + point_width

abbrev pub third_at : ℕ → ℕ
third_at n = first_at n + 2 * point_width

abbrev pub count_at : ℕ → ℕ
count_at n = first_at n + 3 * point_width

abbrev pub length_by : ℕ → ℕ
length_by n = count_at n + count_width

abbrev pub record_length : ℕ
record_length = length_by s_width

abbrev pub old_record_length : ℕ
old_record_length = length_by old_s_width
