-- Request 8 of document 02: what a plan's runs with the line `(strict)` and without it have in common. All of it rests on one
-- thing: nothing but row 16 reads the line, so whatever else is said of `with_strict b p` is said of p.
--
-- TakenAsNormal: control gives the same turns (SameControl). OneCall: a call without the line has the outcome that the
-- call as it is taken has with the line, since row 16 refuses neither with n = 0 and both alike else; what is taken
-- as normal is put up as normal. An induction over the calls puts these together.
-- EitherDefault: the plan stays drawn (StillDrawn), so demand 3 and request 5 hold of its runs under either default, by the
-- theorems that every drawn plan has. SameWords: each word is the same by induction on the past. So the promise is the
-- same one (SamePromise, SameMoment); one direction is enough, as p is itself the changed plan with its default put back.
-- StaysNormal: a request taken as normal is no high one by the words, so no high grant can go to it.
pub mod SameControl
pub mod OneCall
pub mod TakenAsNormal
pub mod StillDrawn
pub mod SameWords
pub mod SamePromise
pub mod SameMoment
pub mod EitherDefault
pub mod StaysNormal
