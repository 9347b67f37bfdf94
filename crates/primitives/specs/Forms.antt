-- Which operations or questions are of a form.
use Rattle.std.specs.Prelude.{ℕ, Bool, ◌&&◌, ℤ, ◌==◌, int_le, nat_lt}
use Rattle.primitives.specs.declared.form.Form.{Form}

-- those of its code, at a place below its places, with a number of its range
abbrev pub has_form : Form → ℕ → ℕ → ℤ → Bool
has_form form code place number =
    code == form.code && nat_lt place form.places && (int_le form.least number && int_le number form.most)
