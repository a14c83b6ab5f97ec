-- The entries by their letters: document 01, 'Sessions to check', and oracle/README.md, 'Formats'.
-- Assumes nothing.
use Rattle.std.specs.Prelude.{cond, ℕ, eqb, Option, Some, None}
use Rattle.rules.specs.declared.Entry.{Entry}
use Rattle.rules.specs.declared.Entry.TheVariants.{SmtpClient, SmtpServer, Pop3Server, ImapClient}

-- S, s, P, I
unfoldable pub entry_of : ℕ → Option Entry
entry_of b =
    cond (eqb b 83) (Some SmtpClient)
    (cond (eqb b 115) (Some SmtpServer)
    (cond (eqb b 80) (Some Pop3Server)
    (cond (eqb b 73) (Some ImapClient)
    None)))
