-- A shape is built from its measures. Assumes nothing.
use Rattle.std.proofs.Common.{ℕ, ◌-◌, ◌≤◌, ◌≡◌, List, arith, length, take, replicate, length-take-le, Float}
use Rattle.std.specs.Prelude.{Option, option_map}
use lib.ListN.{length-replicate}
use lib.Ieee.{binary32, mul, div, of_int, of_bits}
use Rattle.spec_arithmetic.specs.Narrow.{narrowed}
use Rattle.spec_shape.specs.Turning.{turning_point}
use Rattle.spec_shape.specs.Range.{range_in}
use Rattle.spec_shape.specs.Fit.{line_slope, quadratic_coefficient}
use Rattle.spec_shape.specs.Window.{weight_at}
use Rattle.tonekit_window.specs.Promises.{contour_at}
use Rattle.spec_shape.specs.declared.Extent.{Extent}
use Rattle.spec_shape.specs.declared.ToneShape.{ToneShape}
use Rattle.spec_shape.specs.Extract.{frames_in, list_of, drawn, whole32, mean_of, confidence, shape_of}
use Rattle.tonekit_shape.specs.Promises.{smoothed}

pub built : (frames : List ℕ) (e : Extent) (start end : ℕ) (floor ceil : Float) {chao contour weights : List Float} {mean s slope q curvature range voiced span conf : Float} {turn turning : Option Float}
    → chao ≡ drawn frames e.first (frames_in e) floor ceil
    → contour ≡ list_of (contour_at chao) 10
    → weights ≡ list_of (weight_at frames e.first (frames_in e)) 10
    → mean ≡ mean_of contour
    → s ≡ line_slope (record { frames = frames; first = e.first; chao = chao }) e.count
    → slope ≡ narrowed s
    → q ≡ quadratic_coefficient (record { frames = frames; first = e.first; chao = chao }) e.count
    → curvature ≡ narrowed q
    → turn ≡ turning_point (smoothed chao)
    → turning ≡ option_map narrowed turn
    → range ≡ range_in binary32 contour
    → span ≡ whole32 (end - start)
    → voiced ≡ whole32 e.count
    → conf ≡ confidence frames e
    → ◌≡◌ {A = ToneShape}
    (record {
      contour = contour;
      weights = weights;
      mean = mean;
      slope = slope;
      curvature = curvature;
      turning = turning;
      range = range;
      duration = mul binary32 span (of_bits binary32 0x4120_0000);
      fraction = div binary32 voiced span;
      confidence = conf;
      frames = frames_in e;
    })
    (shape_of frames e start end floor ceil)
unfolding shape_of of_int of_bits
built frames e start end floor ceil chao-is contour-is weights-is mean-is s-is slope-is q-is curvature-is turn_is turning-is range-is span-is voiced-is conf-is =
    rw (slope-is, s-is, curvature-is, q-is, turning-is, turn_is, mean-is, range-is, contour-is, weights-is, conf-is, voiced-is, span-is, chao-is)

-- the front of the place for it
pub front_length : (n m : ℕ) (x : Float) → n ≤ m → length (take n (replicate m x)) ≡ n
front_length n m x h = length-take-le n (replicate m x) (omega (arith, length-replicate m x))
