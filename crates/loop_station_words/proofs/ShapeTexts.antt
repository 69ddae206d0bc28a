-- Shapes, by the parts of their text.
use Rattle.std.proofs.Common.{◌≡◌, ◌↔◌, ℕ, Bool, true, false, cond, List, Option, Some, None, Result, Ok, Err, IsTrue, IsOk, ap, codes, refl, sym, ◌∙◌}
use Rattle.std.specs.Result.{is_err}
use Rattle.std.proofs.lemmas.Bool.{false≢true}
use Rattle.loop_record.specs.Geometry.{format_named, is_good}
use Rattle.loop_record.specs.declared.geometry.Geometry.{Geometry}
use Rattle.loop_record.specs.declared.geometry.PixelFormat.{PixelFormat}
use Rattle.loop_script.specs.Script.{geometry_of, rate_said, small_number}
use Rattle.loop_station_words.specs.Shapes.{shape_in, shape_from}
use Rattle.loop_station_words.specs.declared.shape.FrameShape.{FrameShape}

-- the shape of a geometry's frames
abbrev pub frames_of : Geometry → FrameShape
frames_of g = record {
  width = g.width;
  height = g.height;
  format = g.format;
  rate_num = g.rate_num;
  rate_den = g.rate_den;
}

-- the shape of the parts of a geometry, which has the least ring
abbrev shape_by : Option Geometry → Option FrameShape
shape_by None = None
shape_by (Some g) = cond (is_good g) (Some (frames_of g)) None

shape-parts : (w h : Option ℕ) (f : Option PixelFormat) (r : Option (ℕ × ℕ))
    → shape_from w h f r ≡ shape_by (geometry_of w h f r (Some 2) (Some 1))
shape-parts (Some w) (Some h) (Some f) (Some r) = refl
shape-parts None h f r = refl
shape-parts (Some w) None f r = refl
shape-parts (Some w) (Some h) None r = refl
shape-parts (Some w) (Some h) (Some f) None = refl

-- four words that name no geometry with the least ring
pub shape-none : (width height format rate : List ℕ)
    → geometry_of (small_number width) (small_number height) (format_named format) (rate_said rate)
    (small_number (codes "2")) (small_number (codes "1")) ≡ None
    → shape_in width height format rate ≡ None
unfolding shape_in
shape-none width height format rate is =
    shape-parts (small_number width) (small_number height) (format_named format) (rate_said rate) ∙ ap shape_by is

-- four words that name one
pub shape-some : (width height format rate : List ℕ) (g : Geometry)
    → geometry_of (small_number width) (small_number height) (format_named format) (rate_said rate)
    (small_number (codes "2")) (small_number (codes "1")) ≡ Some g
    → shape_in width height format rate ≡ cond (is_good g) (Some (frames_of g)) None
unfolding shape_in
shape-some width height format rate g is =
    shape-parts (small_number width) (small_number height) (format_named format) (rate_said rate) ∙ ap shape_by is

-- what the result of a check says of its test
pub check-passed : {A E : Type 0} (r : Result A E) (good : Bool) → (IsOk r ↔ IsTrue good)
    → is_err r ≡ false → good ≡ true
check-passed (Ok x) good says is = says.0 refl
check-passed (Err e) good says is = absurd (false≢true (sym is))

pub check-failed : {A E : Type 0} (r : Result A E) (good : Bool) → (IsOk r ↔ IsTrue good)
    → is_err r ≡ true → good ≡ false
check-failed (Ok x) good says is = absurd (false≢true is)
check-failed (Err e) true says is = absurd (false≢true (says.1 refl))
check-failed (Err e) false says is = refl
