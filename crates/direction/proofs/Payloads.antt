-- The answer by the payloads, one law for each way to it.
-- Assumes nothing.
use mathlib.Core.Path.{◌≡◌}
use mathlib.Core.Bool.{true, false, ◌&&◌, not, and-false}
use Rattle.direction.specs.Direction.{Side, greets, commands, by_payload}
use Rattle.direction.specs.declared.Guess.TheVariants.{AsGiven, Swapped, Unknown}
use Rattle.direction.specs.declared.Protocol.{Protocol}

module _ (p : Protocol) (c s : Side) where
  pub unheld : c.held ≡ false → s.held ≡ false → Unknown ≡ by_payload p c s
  unfolding by_payload
  unheld h g = rw (h, g)

  pub server_greets : s.held ≡ true → greets p s.payload ≡ true → AsGiven ≡ by_payload p c s
  unfolding by_payload
  server_greets h g = rw (h, and-false (not c.held), g)

  pub server_commands : s.held ≡ true → greets p s.payload ≡ false → commands p s.payload ≡ true → Swapped ≡ by_payload p c s
  unfolding by_payload
  server_commands h g d = rw (h, and-false (not c.held), g, d)

-- one payload is held, and the server side's tells nothing
pub record Unsaid (p : Protocol) (c s : Side) : Type 0 where
  pub some_held : (not c.held && not s.held) ≡ false
  pub no_greeting : (s.held && greets p s.payload) ≡ false
  pub no_command : (s.held && commands p s.payload) ≡ false

module _ (p : Protocol) (c s : Side) (u : Unsaid p c s) where
  pub client_greets : c.held ≡ true → greets p c.payload ≡ true → Swapped ≡ by_payload p c s
  unfolding by_payload
  client_greets h g = rw (u.some_held, u.no_greeting, u.no_command, h, g)

  pub client_silent : c.held ≡ true → greets p c.payload ≡ false → AsGiven ≡ by_payload p c s
  unfolding by_payload
  client_silent h g = rw (u.some_held, u.no_greeting, u.no_command, h, g)

  pub client_unheld : c.held ≡ false → AsGiven ≡ by_payload p c s
  unfolding by_payload
  client_unheld h = rw (u.some_held, u.no_greeting, u.no_command, h)
