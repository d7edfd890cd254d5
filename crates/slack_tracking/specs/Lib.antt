pub mod Slack
